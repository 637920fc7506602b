-- The area that the next frame takes from a queue is bytes where the queue's layout is: its records are marks and parts of the packets, and zeros follow them.
use mathlib.Core.Bool.{Bool, true, false}
use mathlib.Core.Option.{Option, none, some}
use mathlib.Core.List.{List, [], ◌∷◌}
use Prim.Native.Nat.{ℕ, ◌+◌, ◌-◌, ◌≤◌}
use native.Mathlib.Omega.{arith}
use native.Mathlib.Decide.{dec_le}
use lib.ListN.{length, take}
use Rattle.basics.specs.Lists.{zeros, Bytes}
use Rattle.basics.specs.Numbers.{high_first}
use Rattle.basics.proofs.Lists.{zeros_bytes, bytes_front, bytes_behind, bytes_append, bytes_take}
use Rattle.basics.proofs.Numbers.{high_first_bytes}
use Rattle.link.specs.Link.{Packet, Piece, Queue, Cut}
use Rattle.link.specs.Store.{layout_packets, layout}
use Rattle.packing.specs.Rules.{record_mark, record_bytes, records_bytes}
use Rattle.packing.specs.Filling.{fill_front, fill_waiting, fill_from, fill}
use Rattle.packing.proofs.Filling.{front_whole, front_part, waiting_front, waiting_none, waiting_full}
use Rattle.sending.specs.Next.{area_for}

-- a record before others
record_bytes_lem : (piece : Piece) (pieces : List Piece) → Bytes piece.bytes → Bytes (records_bytes pieces) → Bytes (records_bytes (piece ∷ pieces))
record_bytes_lem piece pieces b later =
    let mark = record_mark piece in
    bytes_append (record_bytes piece) (records_bytes pieces) (bytes_append (high_first 2 mark) piece.bytes (high_first_bytes 2 mark) b) later

-- the front packet, which may be begun: all of it where it fits, or a part
front_bytes : (room : ℕ) (first : Bool) (bytes : List ℕ) (packets : List Packet) (more : Cut) → Bytes bytes → Bytes (records_bytes more.pieces)
    → Bytes (records_bytes (fill_front room first bytes packets more).pieces)
front_bytes room first bytes packets more b later = go (dec_le (2 + length bytes) room)
  where
    go : Dec (2 + length bytes ≤ room) → Bytes (records_bytes (fill_front room first bytes packets more).pieces)
    go (yes y) =
        rw (front_whole room first bytes packets more y)
        (record_bytes_lem (record { first = first; last = true; bytes = bytes }) more.pieces b later)
    go (no y) =
        rw (front_part room first bytes packets more (omega arith))
        (record_bytes_lem (record { first = first; last = false; bytes = take (room - 2) bytes }) [] (bytes_take (room - 2) bytes b) tt)

waiting_bytes : (room : ℕ) (ps : List Packet) → Bytes (layout_packets ps) → Bytes (records_bytes (fill_waiting room ps).pieces)
waiting_bytes room [] b = rw (waiting_none room) tt
waiting_bytes room (p ∷ ps) b = go (dec_le 3 room) (waiting_bytes (room - (2 + length p)) ps (bytes_behind p (layout_packets ps) b.1.1))
  where
    go : Dec (3 ≤ room) → Bytes (records_bytes (fill_waiting (room - (2 + length p)) ps).pieces)
        → Bytes (records_bytes (fill_waiting room (p ∷ ps)).pieces)
    go (yes y) later =
        rw (waiting_front room p ps y)
        (front_bytes room true p ps (fill_waiting (room - (2 + length p)) ps) (bytes_front p (layout_packets ps) b.1.1) later)
    go (no y) later = rw (waiting_full room (p ∷ ps) (omega arith)) tt

fill_bytes : (queue : Queue) → Bytes (layout queue) → Bytes (records_bytes (fill 1908 queue).pieces)
unfolding layout
fill_bytes queue = go queue.rest
  where
    go : (rest : Option (List ℕ)) → Bytes (layout (record { rest = rest; waiting = queue.waiting }))
        → Bytes (records_bytes (fill_from 1908 rest queue.waiting).pieces)
    go none b = waiting_bytes 1908 queue.waiting b
    go (some rest) b =
        let packets = queue.waiting in
        let room = 1908 - (2 + length rest) in
        front_bytes 1908 false rest packets (fill_waiting room packets) (bytes_front rest (layout_packets packets) b.1.1)
        (waiting_bytes room packets (bytes_behind rest (layout_packets packets) b.1.1))

pub area_bytes : (queue : Queue) → Bytes (layout queue) → Bytes (area_for queue)
area_bytes queue b =
    let records = records_bytes (fill 1908 queue).pieces in
    let n = 1908 - length records in
    bytes_append records (zeros n) (fill_bytes queue b) (zeros_bytes n)
