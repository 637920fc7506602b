-- DEMAND 3 holds of every history of the calls.
use mathlib.Core.Path.{◌≡◌}
use mathlib.Core.List.{List}
use Prim.Native.Nat.{ℕ}
use native.Mathlib.Nat.{zero-add}
use Rattle.link.specs.Link.{ArePackets, Piece, empty}
use Rattle.link.proofs.Machine.{puts_of, frames_of, fresh, deliver}
use Rattle.link.proofs.Demand3.{demand3}
use Rattle.packing.proofs.Filling.{load}
use Rattle.sender.specs.Put.{fresh_sender}
use Rattle.sender.proofs.Stands.{fresh_stands}
use Rattle.receiver.specs.Applying.{fresh_receiver}
use Rattle.demands.specs.Demand3.{SenderCall, frames_sent, Fate, marks, learned, History, Promise}
use Rattle.demands.proofs.Sender.{granted, Sound, fresh_sound, all_carried}
use Rattle.demands.proofs.Receiver.{fresh_holds, hears}

pub demand3_holds : (taps : ℕ) (queue hold : List ℕ) (calls : List SenderCall) (fates : List Fate)
    → History taps queue hold calls fates → Promise taps queue calls fates
demand3_holds taps queue hold calls fates h =
    rw (← sound.taken, all_carried taps 0 (frames_sent calls) pieces sound.carried, sound.left, learns)
    (demand3 load (granted calls) (marks fates) allowed h.limit)
  where
    sound : Sound taps 0 empty fresh_sender queue calls
    sound = fresh_sound taps fresh_sender queue calls (fresh_stands queue h.queue_bytes) h.sent

    pieces : List (List Piece)
    pieces = frames_of load empty (granted calls)

    allowed : ArePackets (puts_of (granted calls))
    allowed = rw sound.taken sound.packets

    learns : learned fates ≡ deliver (marks fates) 0 fresh pieces
    learns =
        hears taps h.allowed (marks fates) fates 0 fresh_receiver hold fresh (frames_sent calls) pieces (λ k. rw zero-add)
        (fresh_holds hold h.hold_sized) sound.carried h.came
