-- Sender and receiver over frames that are lists of pieces, as the proof of demand 3 runs them: what a frame takes is any number of bytes of the queue,
-- and a receiver answers frame by frame. No contract and no demand cites it, so it need not be believed.
use mathlib.Core.Bool.{true, false, cond}
use mathlib.Core.Option.{Option, none, some}
use mathlib.Core.List.{List, [], ◌∷◌, ◌++◌}
use Prim.Native.Nat.{ℕ, zero, suc, ◌-◌, ◌%◌}
use lib.ListN.{length, take, drop}
use lib.Dec.{leb}
use Rattle.basics.specs.Sizes.{frame_numbers}
use Rattle.basics.specs.Counts.{next_txfn}
use Rattle.link.specs.Link.{Packet, Piece, Queue, Cut, cut_nothing, cut_last, piece_then, on_pieces, fits, Answer, taken, refused, missed, held_after}
use Rattle.link.specs.Ledger.{Mark, by_mark}

-- ---------------------------------------------------------------- the sender

-- the queue with a packet put behind the others
abbrev pub with_packet : Queue → Packet → Queue
with_packet queue packet = record { rest = queue.rest; waiting = queue.waiting ++ (packet ∷ []) }

-- the next n bytes of a packet that is longer and of which nothing has been sent
abbrev pub cut_packet : ℕ → Packet → List Packet → Cut
cut_packet zero packet packets = cut_nothing none (packet ∷ packets)
cut_packet (suc n) packet packets = cut_last (record { first = true; last = false; bytes = take (suc n) packet }) (drop (suc n) packet) packets

-- the next n bytes of packets of which nothing has been sent
abbrev pub cut_waiting : ℕ → List Packet → Cut
cut_waiting n [] = cut_nothing none []
cut_waiting n (packet ∷ packets) = cond (leb (length packet) n)
    (piece_then (record { first = true; last = true; bytes = packet }) (cut_waiting (n - length packet) packets))
    (cut_packet n packet packets)

-- the next n bytes of the rest of a packet, which is longer
abbrev pub cut_rest : ℕ → List ℕ → List Packet → Cut
cut_rest zero rest packets = cut_nothing (some rest) packets
cut_rest (suc n) rest packets = cut_last (record { first = false; last = false; bytes = take (suc n) rest }) (drop (suc n) rest) packets

abbrev pub cut_from : ℕ → Option (List ℕ) → List Packet → Cut
cut_from n none packets = cut_waiting n packets
cut_from n (some rest) packets = cond (leb (length rest) n)
    (piece_then (record { first = false; last = true; bytes = rest }) (cut_waiting (n - length rest) packets))
    (cut_rest n rest packets)

-- The next n bytes of the queue. How many a frame takes is the packing's affair (`load`); demand 3 holds for every such choice.
abbrev pub cut : ℕ → Queue → Cut
cut n queue = cut_from n queue.rest queue.waiting

-- The calls to a sender that were not refused: a packet is put, a frame is built.
pub data Call : Type 0 where
  put : Packet → Call
  next : Call

abbrev pub puts_of : List Call → List Packet
puts_of [] = []
puts_of (put packet ∷ calls) = packet ∷ puts_of calls
puts_of (next ∷ calls) = puts_of calls

module _ (load : Queue → ℕ) where
  -- the frames that the calls build, from a queue on; each takes `load` bytes of the queue that it meets
  abbrev pub frames_of : Queue → List Call → List (List Piece)
  frames_of queue [] = []
  frames_of queue (put packet ∷ calls) = frames_of (with_packet queue packet) calls
  frames_of queue (next ∷ calls) = (cut (load queue) queue).pieces ∷ frames_of (cut (load queue) queue).left calls

  -- the queue after the calls
  abbrev pub queue_after : Queue → List Call → Queue
  queue_after queue [] = queue
  queue_after queue (put packet ∷ calls) = queue_after (with_packet queue packet) calls
  queue_after queue (next ∷ calls) = queue_after (cut (load queue) queue).left calls

-- ---------------------------------------------------------------- the receiver

-- The receiver's state: the number expected (none where it is fresh), and the held part.
pub record Receiver : Type 0 where
  pub expected : Option ℕ
  pub held : List ℕ

abbrev pub fresh : Receiver
fresh = record { expected = none; held = [] }

pub record Received : Type 0 where
  pub answer : Answer
  pub state : Receiver

abbrev pub receive_with : Receiver → ℕ → ℕ → List ℕ → List Piece → Received
receive_with receiver number count held pieces = cond (fits held pieces)
    (record {
      answer = taken count (on_pieces held pieces).out;
      state = record { expected = some (next_txfn number); held = (on_pieces held pieces).held };
    })
    (record { answer = refused 15; state = receiver })

-- A frame with a number and pieces is received.
unfoldable pub receive : Receiver → ℕ → List Piece → Received
receive receiver number pieces =
    let count = missed receiver.expected number in
    receive_with receiver number count (held_after count receiver.held) pieces

-- The answers of a receiver to frames that are lists of pieces, the first of them frame i: a lost frame leaves its state as it was.
abbrev pub deliver : (ℕ → Mark) → ℕ → Receiver → List (List Piece) → List Answer
deliver mark i receiver [] = []
deliver mark i receiver (frame ∷ frames) =
    let received = receive receiver (i % frame_numbers) frame in
    by_mark (mark i) (deliver mark (suc i) receiver frames) (received.answer ∷ deliver mark (suc i) received.state frames)
