-- DEMAND 1 holds of every call.
use mathlib.Core.Path.{◌≡◌, refl}
use Prim.Native.Nat.{◌+◌}
use Rattle.refusals.specs.Numbers.{refusal_of}
use Rattle.header.specs.Calls.{code_table, code_refusal, CodeHeaderOutcome}
use Rattle.header_reading.specs.Reading.{read_table, read_refusal}
use Rattle.fast_channel.specs.Level.{level_of, LevelOutcome}
use Rattle.opening.specs.Opening.{open_table, open_refusal, OpenOutcome}
use Rattle.repairing.specs.Repairing.{repair_table, repair_refusal, RepairOutcome, shown_bytes, shown_place}
use Rattle.sender.specs.Put.{put_table, put_refusal, PutOutcome}
use Rattle.sender.specs.Waiting.{waiting_table, waiting_refusal, waiting_answer}
use Rattle.sending.specs.Next.{next_table, next_refusal, NextOutcome}
use Rattle.receiver.specs.Applying.{apply_table, apply_refusal, ApplyOutcome}
use Rattle.list.specs.Entries.{entry_table, entry_refusal, entry_answer, packet_at, place_at, PacketOutcome}
use Rattle.demands.specs.Demand1.{EveryCall}
use Rattle.demands.proofs.Outcomes.{one_lent, two_lent, none_lent, never_refuses}

pub every_call_holds : EveryCall
unfolding put_refusal waiting_refusal waiting_answer next_refusal open_refusal repair_refusal apply_refusal entry_refusal entry_answer code_refusal
    read_refusal refusal_of
every_call_holds = record {
  put = λ queue sender packet.
      one_lent _ (put_table queue sender.start sender.used packet) refl refl (PutOutcome queue sender packet) _ queue
      (record { answer = refl; bytes = refl }) (λ r after o. (o.answer, o.bytes));
  next_frame = λ taps fields sender queue out.
      two_lent _ (next_table taps fields sender.start sender.used queue out) refl refl (NextOutcome taps fields sender queue out) _ queue _ out
      (record { answer = refl; bytes = refl; frame = refl }) (λ r queue' out' o. (o.answer, (o.bytes, o.frame)));
  open_frame = λ taps frame area.
      one_lent _ (open_table taps frame area) refl refl (OpenOutcome taps frame area) _ area
      (record { answer = refl; bytes = refl }) (λ r after o. (o.answer, o.bytes));
  repair = λ taps part scratch.
      one_lent _ (repair_table taps part scratch) refl refl (RepairOutcome taps part scratch) _ scratch
      (record { answer = refl; bytes = refl }) (λ r after o. (o.answer, o.bytes));
  apply = λ header area receiver hold list.
      two_lent _ (apply_table header area receiver hold list) refl refl (ApplyOutcome header area receiver hold list) _ hold _ list
      (record { answer = refl; held = refl; listed = refl }) (λ r hold' list' o. (o.answer, (o.held, o.listed)));
  code_header = λ header out.
      one_lent _ (code_table header out) refl refl (CodeHeaderOutcome header out) _ out
      (record { answer = refl; bytes = refl }) (λ r after o. (o.answer, o.bytes));
  waiting = λ queue sender. none_lent _ (waiting_table queue sender.start sender.used) refl refl;
  read = λ bytes. none_lent _ (read_table bytes) refl refl;
  entry = λ list position. none_lent _ (entry_table list position) refl refl;
  shown = λ answer part scratch.
      never_refuses (λ r. (r.0 ≡ shown_bytes answer part.now scratch.now) × (r.1 ≡ shown_place answer part scratch))
      (shown_bytes answer part.now scratch.now, shown_place answer part scratch) (refl, refl) (λ r o j. (o.0 j, o.1 j));
  packet = λ list from position.
      never_refuses (λ answer. PacketOutcome list from position answer.0 answer.1) (packet_at list position, (from.0, place_at list position + from.1))
      (record { bytes = refl; block = refl; place = refl }) (λ r o j. (o.bytes j, (o.block j, o.place j)));
  level = λ code. never_refuses (LevelOutcome code) (level_of code) refl (λ r o. o);
}
