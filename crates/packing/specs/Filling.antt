-- What the next frame takes from the queue (01, "Next frame"): while a packet waits and 3 or more bytes remain in the area, a record takes as much of the front
-- packet as fits. `fill` says it from any room and any queue on, as a loop goes: the pieces of the records, and the queue that is left.
use Rattle.std.specs.Prelude.{Bool, true, false, cond, List, [], ◌∷◌, ℕ, ◌+◌, ◌-◌, length, take, drop, leb}
use Rattle.std.proofs.Math.Option.{Option, none, some}
use Rattle.link.specs.Link.{Packet, Queue, Cut, cut_nothing, cut_last, piece_then}
use Rattle.packing.specs.Rules.{shortest}

-- The record of the front packet, of which these bytes are unsent: all of them where they fit, and then there is more; otherwise as many as fit.
abbrev pub fill_front : ℕ → Bool → List ℕ → List Packet → Cut → Cut
fill_front room first bytes packets more = cond (leb (2 + length bytes) room)
    (piece_then (record { first = first; last = true; bytes = bytes }) more)
    (cut_last (record { first = first; last = false; bytes = take (room - 2) bytes }) (drop (room - 2) bytes) packets)

-- with `room` bytes left in the area, and packets of which nothing has been sent
unfoldable pub fill_waiting : ℕ → List Packet → Cut
fill_waiting room [] = cut_nothing none []
fill_waiting room (packet ∷ packets) = cond (leb shortest room)
    (fill_front room true packet packets (fill_waiting (room - (2 + length packet)) packets))
    (cut_nothing none (packet ∷ packets))

abbrev pub fill_from : ℕ → Option (List ℕ) → List Packet → Cut
fill_from room none packets = fill_waiting room packets
fill_from room (some rest) packets = cond (leb shortest room)
    (fill_front room false rest packets (fill_waiting (room - (2 + length rest)) packets))
    (cut_nothing (some rest) packets)

-- the records that go into `room` bytes, and the queue that is left
abbrev pub fill : ℕ → Queue → Cut
fill room queue = fill_from room queue.rest queue.waiting
