-- DEMAND 1 of the calls for C (include/taqwelim.h), as `EveryCall` has it of the library's: each answers, in one way, with the number that the library's table
-- gives, and a refusal gives back the state that was given, zeros elsewhere, and leaves every lent byte. `every_call_for_c_holds` in proofs/CallsForC.antt is
-- the proof.
use Rattle.std.specs.Prelude.{List, ℕ, Err}
use Rattle.header.specs.Calls.{code_table}
use Rattle.header_reading.specs.Reading.{read_table}
use Rattle.sender.specs.Put.{put_table}
use Rattle.sender.specs.Waiting.{waiting_table}
use Rattle.sending.specs.Next.{next_table}
use Rattle.opening.specs.Opening.{open_table}
use Rattle.repairing.specs.Repairing.{repair_table}
use Rattle.receiver.specs.Applying.{apply_table}
use Rattle.list.specs.Entries.{entry_table}
use Rattle.flat.specs.Headers.{fields_of, header_of}
use Rattle.flat.specs.declared.headers.FlatFields.{FlatFields}
use Rattle.flat.specs.declared.headers.FlatHeader.{FlatHeader}
use Rattle.flat.specs.States.{receiver_of}
use Rattle.flat.specs.declared.states.FlatReceiver.{FlatReceiver}
use Rattle.flat.specs.declared.states.FlatSender.{FlatSender}
use Rattle.flat.specs.Answers.{flat_put, flat_waiting, flat_next, flat_open, flat_repair, flat_apply, flat_code, flat_read, flat_entry}
use Rattle.flat.specs.declared.FlatWaiting.{FlatWaiting}
use Rattle.flat.specs.declared.FlatNext.{FlatNext}
use Rattle.flat.specs.declared.FlatApply.{FlatApply}
use Rattle.flat.specs.declared.FlatRead.{FlatRead}
use Rattle.flat.specs.declared.FlatEntry.{FlatEntry}
use Rattle.taqwelim.specs.Calls.{FreshSenderCall, PutCall, WaitingCall, NextCall, FreshReceiverCall, OpenCall, RepairCall, ApplyCall, EntryCall}
use Rattle.taqwelim.specs.Calls.{PacketCall, CodeCall, ReadCall, LevelCall}
use Rattle.demands.specs.Demand1.{Demand1, RefusesWith, RefusesNothing}

pub record EveryCallForC : Type 0 where
  pub sender_begins : RefusesNothing FreshSenderCall
  pub put : (queue : List ℕ) (sender : FlatSender) (packet : List ℕ)
      → Demand1 (PutCall queue sender packet) queue (λ answer. answer.refusal)
      (RefusesWith (λ refusal. flat_put sender (Err refusal))) (put_table queue sender.start sender.used packet)
  pub waiting : (queue : List ℕ) (sender : FlatSender)
      → Demand1 {Answer = FlatWaiting} {Lent = Unit {0}} (λ answer after. WaitingCall queue sender answer) tt (λ answer. answer.refusal)
      (RefusesWith (λ refusal. flat_waiting (Err refusal))) (waiting_table queue sender.start sender.used)
  pub next_frame : (taps : ℕ) (fields : FlatFields) (sender : FlatSender) (queue out : List ℕ)
      → Demand1 {Answer = FlatNext} {Lent = List ℕ × List ℕ}
      (λ answer after. NextCall taps fields sender queue out answer after.0 after.1) (queue, out)
      (λ answer. answer.refusal) (RefusesWith (λ refusal. flat_next sender (Err refusal)))
      (next_table taps (fields_of fields) sender.start sender.used queue out)
  pub receiver_begins : RefusesNothing FreshReceiverCall
  pub open_frame : (taps : ℕ) (frame area : List ℕ)
      → Demand1 (OpenCall taps frame area) area (λ answer. answer.refusal)
      (RefusesWith (λ refusal. flat_open (Err refusal))) (open_table taps frame area)
  pub repair : (taps : ℕ) (part scratch : List ℕ)
      → Demand1 (RepairCall taps part scratch) scratch (λ answer. answer.refusal)
      (RefusesWith (λ refusal. flat_repair (Err refusal))) (repair_table taps part scratch)
  pub apply : (header : FlatHeader) (area : List ℕ) (receiver : FlatReceiver) (hold list : List ℕ)
      → Demand1 {Answer = FlatApply} {Lent = List ℕ × List ℕ} (λ answer after. ApplyCall header area receiver hold list answer after.0 after.1)
      (hold, list) (λ answer. answer.refusal) (RefusesWith (λ refusal. flat_apply receiver (Err refusal)))
      (apply_table (header_of header) area (receiver_of receiver) hold list)
  pub entry : (list : List ℕ) (position : ℕ)
      → Demand1 {Answer = FlatEntry} {Lent = Unit {0}} (λ answer after. EntryCall list position answer) tt (λ answer. answer.refusal)
      (RefusesWith (λ refusal. flat_entry (Err refusal))) (entry_table list position)
  pub packet : (list : List ℕ) (position : ℕ) → RefusesNothing (PacketCall list position)
  pub code_header : (header : FlatHeader) (out : List ℕ)
      → Demand1 (CodeCall header out) out (λ answer. answer.refusal) (RefusesWith (λ refusal. flat_code (Err refusal)))
      (code_table (header_of header) out)
  pub read : (bytes : List ℕ)
      → Demand1 {Answer = FlatRead} {Lent = Unit {0}} (λ answer after. ReadCall bytes answer) tt (λ answer. answer.refusal)
      (RefusesWith (λ refusal. flat_read (Err refusal))) (read_table bytes)
  pub level : (code : ℕ) → RefusesNothing (LevelCall code)
