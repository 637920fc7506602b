-- What a frame leaves of the queue's bytes: they begin further on, and where a packet is begun its mark stands before them, within what was freed.
use mathlib.Core.Path.{◌≡◌, refl, sym, ap, ◌∙◌}
use mathlib.Core.Bool.{Bool, true, false}
use mathlib.Core.Option.{Option, none, some}
use mathlib.Core.List.{List, [], ◌∷◌, ◌++◌}
use Prim.Native.Nat.{ℕ, ◌+◌, ◌-◌, ◌≤◌}
use native.Mathlib.Omega.{arith}
use native.Mathlib.Decide.{dec_le}
use lib.ListN.{length, drop, length-append, length-drop}
use lib.Seq.{drop-append-le, drop-append-add}
use Rattle.basics.specs.Lists.{Bytes}
use Rattle.basics.proofs.Lists.{bytes_append, bytes_drop}
use Rattle.link.specs.Link.{Packet, Queue, IsRest, IsQueue, Cut}
use Rattle.link.specs.Store.{marked, layout_packets, layout}
use Rattle.packing.specs.Filling.{fill_front, fill_waiting, fill_from, fill}
use Rattle.packing.proofs.Filling.{front_whole, front_part, waiting_front, waiting_none, waiting_full, fill_queue}

-- the mark of a packet that is begun; none where none is
abbrev pub begun_mark : Option (List ℕ) → List ℕ
begun_mark none = []
begun_mark (some rest) = marked (32768 + length rest) []

pub mark_short : (rest : Option (List ℕ)) → length (begun_mark rest) ≤ 2
mark_short none = omega arith
mark_short (some rest) = omega arith

pub record LeftOf (all : List ℕ) (left : Queue) : Type 0 where
  -- how many bytes were sent, or were marks
  pub sent : ℕ
  pub covers : length (begun_mark left.rest) ≤ sent
  pub within : sent ≤ length all
  pub is : layout left ≡ begun_mark left.rest ++ drop sent all

behind_mark : (mark k : ℕ) (bytes : List ℕ) → drop (2 + k) (marked mark bytes) ≡ drop k bytes
behind_mark mark k bytes = drop-append-add (marked mark []) bytes k

-- nothing is taken, and no packet is begun
leaves_waiting : (packets : List Packet) → LeftOf (layout_packets packets) (record { rest = none; waiting = packets })
unfolding layout
leaves_waiting packets = record { sent = 0; covers = omega arith; within = omega arith; is = refl }

-- a packet is cut behind its first k bytes; with none of them it was begun before
leaves_rest : (k mark : ℕ) (bytes : List ℕ) (packets : List Packet) → k ≤ length bytes
    → LeftOf (marked mark (bytes ++ layout_packets packets)) (record { rest = some (drop k bytes); waiting = packets })
unfolding layout
leaves_rest k mark bytes packets h = record {
  sent = 2 + k;
  covers = omega arith;
  within = omega (arith, length-append bytes (layout_packets packets));
  is = ap (marked (32768 + length (drop k bytes)))
      (sym (behind_mark mark k (bytes ++ layout_packets packets) ∙ drop-append-le k bytes (layout_packets packets) h));
}

-- a packet is sent whole
leaves_behind : (mark : ℕ) (bytes : List ℕ) {all : List ℕ} {left : Queue} → LeftOf all left → LeftOf (marked mark (bytes ++ all)) left
leaves_behind mark bytes {all} {left} l = record {
  sent = 2 + (length bytes + l.sent);
  covers = omega (arith, l.covers);
  within = omega (arith, l.within, length-append bytes all);
  is = l.is
      ∙ ap (λ (b : List ℕ). begun_mark left.rest ++ b) (sym (behind_mark mark (length bytes + l.sent) (bytes ++ all) ∙ drop-append-add bytes all l.sent));
}

-- the front packet, which may be begun: all of it is sent where it fits, or it is cut
front_left : (room : ℕ) (first : Bool) (mark : ℕ) (bytes : List ℕ) (packets : List Packet) (more : Cut) → LeftOf (layout_packets packets) more.left
    → LeftOf (marked mark (bytes ++ layout_packets packets)) (fill_front room first bytes packets more).left
front_left room first mark bytes packets more l = go (dec_le (2 + length bytes) room)
  where
    go : Dec (2 + length bytes ≤ room) → LeftOf (marked mark (bytes ++ layout_packets packets)) (fill_front room first bytes packets more).left
    go (yes y) = rw (front_whole room first bytes packets more y) (leaves_behind mark bytes l)
    go (no y) = rw (front_part room first bytes packets more (omega arith)) (leaves_rest (room - 2) mark bytes packets (omega arith))

waiting_left : (room : ℕ) (ps : List Packet) → LeftOf (layout_packets ps) (fill_waiting room ps).left
waiting_left room [] = rw (waiting_none room) (leaves_waiting [])
waiting_left room (p ∷ ps) = go (dec_le 3 room) (waiting_left (room - (2 + length p)) ps)
  where
    go : Dec (3 ≤ room) → LeftOf (layout_packets ps) (fill_waiting (room - (2 + length p)) ps).left
        → LeftOf (layout_packets (p ∷ ps)) (fill_waiting room (p ∷ ps)).left
    go (yes y) more = rw (waiting_front room p ps y) (front_left room true (length p) p ps (fill_waiting (room - (2 + length p)) ps) more)
    go (no y) more = rw (waiting_full room (p ∷ ps) (omega arith)) (leaves_waiting (p ∷ ps))

pub fill_left : (q : Queue) → LeftOf (layout q) (fill 1908 q).left
unfolding layout
fill_left q = go q.rest
  where
    go : (rest : Option (List ℕ)) → LeftOf (layout (record { rest = rest; waiting = q.waiting })) (fill_from 1908 rest q.waiting).left
    go none = waiting_left 1908 q.waiting
    go (some rest) =
        let room = 1908 - (2 + length rest) in
        front_left 1908 false (32768 + length rest) rest q.waiting (fill_waiting room q.waiting) (waiting_left room q.waiting)

-- So it takes no more bytes than there were,
pub left_no_longer : (q : Queue) → length (layout (fill 1908 q).left) ≤ length (layout q)
left_no_longer q =
    let l = fill_left q in
    let mark = begun_mark (fill 1908 q).left.rest in
    omega (arith, ap length l.is, length-append mark (drop l.sent (layout q)), length-drop l.sent (layout q), l.covers, l.within)

-- and is bytes where they were.
mark_bytes : (rest : Option (List ℕ)) → IsRest rest → Bytes (begun_mark rest)
mark_bytes none r = tt
mark_bytes (some rest) r = (omega (arith, r.1), (omega arith, tt))

pub left_bytes : (q : Queue) → IsQueue q → Bytes (layout q) → Bytes (layout (fill 1908 q).left)
left_bytes q h b =
    let l = fill_left q in
    let left = (fill 1908 q).left in
    rw l.is
    (bytes_append (begun_mark left.rest) (drop l.sent (layout q)) (mark_bytes left.rest (fill_queue q h).0) (bytes_drop l.sent (layout q) b))
