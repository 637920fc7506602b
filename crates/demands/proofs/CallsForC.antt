-- DEMAND 1 holds of every call for C: it is the library's, and C's numbers are a function of the library's answer.
use mathlib.Core.Path.{◌≡◌, refl, sym, ap, ◌∙◌}
use mathlib.Core.List.{List}
use Prim.Native.Nat.{ℕ}
use Rattle.std.specs.Prelude.{Option, Some, None, Result, Ok, Err}
use Rattle.refusals.specs.Numbers.{number_of, number_in}
use Rattle.refusals.specs.Table.{Row}
use Rattle.refusals.specs.declared.Refusal.{Refusal}
use Rattle.header_reading.specs.Reading.{read_header}
use Rattle.fast_channel.specs.Level.{level_of}
use Rattle.sender.specs.Put.{fresh_sender}
use Rattle.sender.specs.Waiting.{waiting_answer}
use Rattle.receiver.specs.Applying.{fresh_receiver}
use Rattle.list.specs.Entries.{entry_answer}
use Rattle.list.specs.declared.Place.{Place}
use Rattle.flat.specs.Headers.{fields_of, header_of}
use Rattle.flat.specs.States.{sender_of, flat_sender, receiver_of, flat_receiver}
use Rattle.flat.specs.Answers.{flat_put, flat_waiting, flat_next, flat_open, flat_repair, flat_apply, flat_code, flat_read, flat_entry, flat_packet}
use Rattle.taqwelim.specs.Calls.{FreshSenderCall, PutCall, WaitingCall, NextCall, FreshReceiverCall, OpenCall, RepairCall, ApplyCall, EntryCall}
use Rattle.taqwelim.specs.Calls.{PacketCall, CodeCall, ReadCall, LevelCall}
use Rattle.demands.specs.Demand1.{Demand1, RefusesWith, RefusesByTable}
use Rattle.demands.specs.CallsForC.{EveryCallForC}
use Rattle.demands.proofs.Outcomes.{refused_above, never_refuses}
use Rattle.demands.proofs.Demand1.{every_call_holds}

-- A call of the library that keeps demand 1, and a call for C that makes numbers of its answer: 0 of what is done, and a refusal's number of it.
module _ {A F B : Type 0} {Meets : Result A Refusal → B → Type 0} {before : B} {table : List Row} (library : RefusesByTable Meets before table)
    (flat : Result A Refusal → F) (refusal : F → ℕ)
    (none : (done : A) → refusal (flat (Ok done)) ≡ 0) (number : (r : Refusal) → refusal (flat (Err r)) ≡ number_of r) where
  same_number : (answer : Result A Refusal) → refusal (flat answer) ≡ number_in answer
  same_number (Ok done) = none done
  same_number (Err r) = number r

  module _ (MeetsForC : F → B → Type 0) (made : (answer : Result A Refusal) (after : B) → Meets answer after → MeetsForC (flat answer) after)
      (came : (r : F) (after : B) → MeetsForC r after → (answer : Result A Refusal) × (Meets answer after × (r ≡ flat answer))) where
    flat_number : (r : F) (after : B) (o : MeetsForC r after) → refusal r ≡ number_in (came r after o).0
    flat_number r after o = ap refusal (came r after o).1.1 ∙ same_number (came r after o).0

    pub flat_holds : Demand1 MeetsForC before refusal (RefusesWith (λ r. flat (Err r))) table
    flat_holds = record {
      answered = (flat library.answered.0, (library.answered.1.0, made library.answered.0 library.answered.1.0 library.answered.1.1));
      one_outcome = λ r₁ r₂ a₁ a₂ x y.
          let p = came r₁ a₁ x in
          let q = came r₂ a₂ y in
          let one = library.one_outcome p.0 q.0 a₁ a₂ p.1.0 q.1.0 in
          (p.1.1 ∙ ap flat one.0 ∙ sym q.1.1, one.1);
      number = λ r after o. flat_number r after o ∙ library.number (came r after o).0 after (came r after o).1.0;
      lowest = library.lowest;
      refused = λ r after o ne.
          let p = came r after o in
          let e = flat_number r after o in
          let is = library.refused p.0 after p.1.0 (λ z. ne (e ∙ z)) in
          (is.0, (p.1.1 ∙ ap flat is.1.0, is.1.1 ∙ sym e));
      refusal = λ r n after o h.
          let p = came r after o in
          let e : number_in p.0 ≡ n = sym (flat_number r after o) ∙ ap refusal h.1.0 ∙ number h.0 ∙ h.1.1 in
          let is = library.refused p.0 after p.1.0 (λ z. refused_above h (sym e ∙ z)) in
          library.refusal p.0 n after p.1.0 (is.0, (is.1.0, is.1.1 ∙ e));
    }

-- at a packet and at the end nothing is refused
found_none : (found : Option Place) → (flat_entry (Ok found)).refusal ≡ 0
found_none (Some place) = refl
found_none None = refl

pub every_call_for_c_holds : EveryCallForC
every_call_for_c_holds = record {
  sender_begins = never_refuses FreshSenderCall (flat_sender fresh_sender) refl (λ r o. o);
  put = λ queue sender packet.
      flat_holds (every_call_holds.put queue (sender_of sender) packet) (flat_put sender) (λ r. r.refusal) (λ done. refl) (λ r. refl)
      (PutCall queue sender packet) (λ answer after o. record { answer = answer; outcome = o; flat = refl }) (λ r after o. (o.answer, (o.outcome, o.flat)));
  waiting = λ queue sender.
      flat_holds (every_call_holds.waiting queue (sender_of sender)) flat_waiting (λ r. r.refusal) (λ done. refl) (λ r. refl)
      (λ answer after. WaitingCall queue sender answer) (λ answer after o. ap flat_waiting o) (λ r after o. (waiting_answer queue (sender_of sender), (refl, o)));
  next_frame = λ taps fields sender queue out.
      flat_holds (every_call_holds.next_frame taps (fields_of fields) (sender_of sender) queue out) (flat_next sender) (λ r. r.refusal) (λ done. refl) (λ r. refl)
      (λ answer after. NextCall taps fields sender queue out answer after.0 after.1)
      (λ answer after o. record { answer = answer; outcome = o; flat = refl }) (λ r after o. (o.answer, (o.outcome, o.flat)));
  receiver_begins = never_refuses FreshReceiverCall (flat_receiver fresh_receiver) refl (λ r o. o);
  open_frame = λ taps frame area.
      flat_holds (every_call_holds.open_frame taps frame area) flat_open (λ r. r.refusal) (λ done. refl) (λ r. refl)
      (OpenCall taps frame area) (λ answer after o. record { answer = answer; outcome = o; flat = refl }) (λ r after o. (o.answer, (o.outcome, o.flat)));
  repair = λ taps part scratch.
      flat_holds (every_call_holds.repair taps part scratch) flat_repair (λ r. r.refusal) (λ done. refl) (λ r. refl)
      (RepairCall taps part scratch) (λ answer after o. record { answer = answer; outcome = o; flat = refl })
      (λ r after o. (o.answer, (o.outcome, o.flat)));
  apply = λ header area receiver hold list.
      flat_holds (every_call_holds.apply (header_of header) area (receiver_of receiver) hold list) (flat_apply receiver) (λ r. r.refusal)
      (λ done. refl) (λ r. refl) (λ answer after. ApplyCall header area receiver hold list answer after.0 after.1)
      (λ answer after o. record { answer = answer; outcome = o; flat = refl }) (λ r after o. (o.answer, (o.outcome, o.flat)));
  entry = λ list position.
      flat_holds (every_call_holds.entry list position) flat_entry (λ r. r.refusal) found_none (λ r. refl)
      (λ answer after. EntryCall list position answer) (λ answer after o. ap flat_entry o) (λ r after o. (entry_answer list position, (refl, o)));
  packet = λ list position. never_refuses (PacketCall list position) (flat_packet (entry_answer list position)) refl (λ r o. o);
  code_header = λ header out.
      flat_holds (every_call_holds.code_header (header_of header) out) flat_code (λ r. r.refusal) (λ done. refl) (λ r. refl)
      (CodeCall header out) (λ answer after o. record { answer = answer; outcome = o; flat = refl }) (λ r after o. (o.answer, (o.outcome, o.flat)));
  read = λ bytes.
      flat_holds (every_call_holds.read bytes) flat_read (λ r. r.refusal) (λ done. refl) (λ r. refl)
      (λ answer after. ReadCall bytes answer) (λ answer after o. ap flat_read o) (λ r after o. (read_header bytes, (refl, o)));
  level = λ code. never_refuses (LevelCall code) (level_of code) refl (λ r o. o);
}
