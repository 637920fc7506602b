-- The outcome of each call for C, for all inputs: it is the outcome of one call of the library, on what C's numbers stand for, and C gets that call's
-- answer as numbers. That each keeps demand 1 is `EveryCallForC` in crates/demands/specs/CallsForC.antt.
use Rattle.std.specs.Prelude.{◌≡◌, List, ℕ, ℤ, Result}
use Rattle.refusals.specs.declared.Refusal.{Refusal}
use Rattle.header.specs.Calls.{CodeHeaderOutcome}
use Rattle.header_reading.specs.Reading.{read_header}
use Rattle.fast_channel.specs.Level.{level_of}
use Rattle.list.specs.Entries.{entry_answer}
use Rattle.opening.specs.Opening.{OpenOutcome}
use Rattle.opening.specs.declared.Opened.{Opened}
use Rattle.repairing.specs.Repairing.{RepairOutcome}
use Rattle.receiver.specs.Applying.{fresh_receiver, ApplyOutcome}
use Rattle.receiver.specs.declared.Applied.{Applied}
use Rattle.sender.specs.Put.{fresh_sender, PutOutcome}
use Rattle.sender.specs.Waiting.{waiting_answer}
use Rattle.sending.specs.Next.{NextOutcome}
use Rattle.sender.specs.declared.Sender.{Sender}
use Rattle.sending.specs.declared.Sent.{Sent}
use Rattle.flat.specs.Answers.{flat_put, flat_waiting, flat_next, flat_open, flat_repair, flat_apply, flat_code, flat_read, flat_entry, flat_packet}
use Rattle.flat.specs.Headers.{fields_of, header_of}
use Rattle.flat.specs.States.{sender_of, flat_sender, receiver_of, flat_receiver}
use Rattle.flat.specs.declared.FlatPut.{FlatPut}
use Rattle.flat.specs.declared.FlatWaiting.{FlatWaiting}
use Rattle.flat.specs.declared.FlatNext.{FlatNext}
use Rattle.flat.specs.declared.FlatOpen.{FlatOpen}
use Rattle.flat.specs.declared.FlatApply.{FlatApply}
use Rattle.flat.specs.declared.FlatCode.{FlatCode}
use Rattle.flat.specs.declared.FlatRead.{FlatRead}
use Rattle.flat.specs.declared.FlatRepair.{FlatRepair}
use Rattle.flat.specs.declared.FlatEntry.{FlatEntry}
use Rattle.flat.specs.declared.FlatPacket.{FlatPacket}
use Rattle.flat.specs.declared.headers.FlatFields.{FlatFields}
use Rattle.flat.specs.declared.headers.FlatHeader.{FlatHeader}
use Rattle.flat.specs.declared.states.FlatReceiver.{FlatReceiver}
use Rattle.flat.specs.declared.states.FlatSender.{FlatSender}

pub record PutCall (queue : List ℕ) (sender : FlatSender) (packet : List ℕ) (r : FlatPut) (after : List ℕ) : Type 0 where
  pub answer : Result Sender Refusal
  pub outcome : PutOutcome queue (sender_of sender) packet answer after
  pub flat : r ≡ flat_put sender answer

pub record NextCall (taps : ℕ) (fields : FlatFields) (sender : FlatSender) (queue out : List ℕ) (r : FlatNext) (queue' out' : List ℕ) : Type 0 where
  pub answer : Result Sent Refusal
  pub outcome : NextOutcome taps (fields_of fields) (sender_of sender) queue out answer queue' out'
  pub flat : r ≡ flat_next sender answer

pub record OpenCall (taps : ℕ) (frame before : List ℕ) (r : FlatOpen) (after : List ℕ) : Type 0 where
  pub answer : Result Opened Refusal
  pub outcome : OpenOutcome taps frame before answer after
  pub flat : r ≡ flat_open answer

pub record RepairCall (taps : ℕ) (part before : List ℕ) (r : FlatRepair) (after : List ℕ) : Type 0 where
  pub answer : Result ℕ Refusal
  pub outcome : RepairOutcome taps part before answer after
  pub flat : r ≡ flat_repair answer

pub record ApplyCall (header : FlatHeader) (area : List ℕ) (receiver : FlatReceiver) (hold list : List ℕ)
    (r : FlatApply) (hold' list' : List ℕ) : Type 0 where
  pub answer : Result Applied Refusal
  pub outcome : ApplyOutcome (header_of header) area (receiver_of receiver) hold list answer hold' list'
  pub flat : r ≡ flat_apply receiver answer

pub record CodeCall (header : FlatHeader) (before : List ℕ) (r : FlatCode) (after : List ℕ) : Type 0 where
  pub answer : Result (Unit {0}) Refusal
  pub outcome : CodeHeaderOutcome (header_of header) before answer after
  pub flat : r ≡ flat_code answer

-- calls that write nothing: what they answer

abbrev pub WaitingCall : List ℕ → FlatSender → FlatWaiting → Type 0
WaitingCall queue sender r = r ≡ flat_waiting (waiting_answer queue (sender_of sender))

abbrev pub FreshSenderCall : FlatSender → Type 0
FreshSenderCall r = r ≡ flat_sender fresh_sender

abbrev pub FreshReceiverCall : FlatReceiver → Type 0
FreshReceiverCall r = r ≡ flat_receiver fresh_receiver

abbrev pub EntryCall : List ℕ → ℕ → FlatEntry → Type 0
EntryCall list position r = r ≡ flat_entry (entry_answer list position)

-- the place of the packet alone; `packet_placed` in flat/proofs/Packets.antt: these are the bytes that the library's `packet` hands back
abbrev pub PacketCall : List ℕ → ℕ → FlatPacket → Type 0
PacketCall list position r = r ≡ flat_packet (entry_answer list position)

abbrev pub ReadCall : List ℕ → FlatRead → Type 0
ReadCall bytes r = r ≡ flat_read (read_header bytes)

abbrev pub LevelCall : ℕ → ℤ → Type 0
LevelCall code r = r ≡ level_of code
