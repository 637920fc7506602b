-- The two states as C has them. Any three numbers are a sender's state, which the library judges.
use Rattle.std.specs.Prelude.{Bool, true, cond, ◌&&◌, ℕ, eqb, Option, Some, None}
use Rattle.basics.specs.Sizes.{hold_size}
use Rattle.counts.specs.declared.Txfn.{Txfn}
use Rattle.receiver.specs.declared.Receiver.{Receiver}
use Rattle.sender.specs.declared.Sender.{Sender}
use Rattle.flat.specs.declared.states.FlatReceiver.{FlatReceiver}
use Rattle.flat.specs.declared.states.FlatSender.{FlatSender}

abbrev pub sender_of : FlatSender → Sender
sender_of flat = record { start = flat.start; used = flat.used; next = record { 0 = flat.next } }

abbrev pub flat_sender : Sender → FlatSender
flat_sender sender = record { start = sender.start; used = sender.used; next = sender.next.0 }

-- a number is expected, or none is and then it is 0
unfoldable pub is_receiver : FlatReceiver → Bool
is_receiver flat = cond (eqb flat.expects 1) true (eqb flat.expects 0 && eqb flat.expected 0)

abbrev pub expected_of : FlatReceiver → Option Txfn
expected_of flat = cond (eqb flat.expects 0) None (Some (record { 0 = flat.expected }))

-- what is no receiver's state is given a hold that is full, more than may be held, and so is refused with 3
unfoldable pub held_of : FlatReceiver → ℕ
held_of flat = cond (is_receiver flat) flat.held hold_size

abbrev pub receiver_of : FlatReceiver → Receiver
receiver_of flat = record { expected = expected_of flat; held = held_of flat }

abbrev pub with_expected : ℕ → Option Txfn → FlatReceiver
with_expected held None = record { held = held; expected = 0; expects = 0 }
with_expected held (Some txfn) = record { held = held; expected = txfn.0; expects = 1 }

abbrev pub flat_receiver : Receiver → FlatReceiver
flat_receiver receiver = with_expected receiver.held receiver.expected
