-- The packet in front of a queue where one waits, begun or not; and what its mark and its bytes are at a position of the queue's bytes.
use mathlib.Core.Path.{◌≡◌, refl, sym, ap, ◌∙◌}
use mathlib.Core.Bool.{Bool, true, false, cond}
use mathlib.Core.Option.{Option, none, some}
use mathlib.Core.List.{List, [], ◌∷◌, ◌++◌}
use Prim.Native.Nat.{ℕ, ◌+◌, ◌-◌, ◌%◌, ◌≤◌, ◌<◌}
use native.Mathlib.Omega.{arith}
use lib.Dec.{leb, ltb}
use lib.ListN.{length, take, drop, length-append, length-drop}
use lib.Seq.{drop-drop, take-append-le, drop-append-le}
use borrow.Author.Tests.{lt-ltb, le-ltb}
use Rattle.link.specs.Link.{Packet, ArePackets, Queue, IsRest, IsQueue, cut_nothing}
use Rattle.link.specs.Store.{marked, layout_packets, layout_rest, layout}
use Rattle.link.specs.Parsing.{mark_at}
use Rattle.link.proofs.Store.{mark_back, mark_from, mark_from_lem}
use Rattle.packing.specs.Rules.{shortest}
use Rattle.packing.specs.Filling.{fill_front, fill_waiting, fill}

-- the mark of a packet of which n bytes are unsent: all of it, or it is begun
abbrev pub front_mark : Bool → ℕ → ℕ
front_mark first n = cond first n (32768 + n)

pub record Front (q : Queue) : Type 0 where
  pub first : Bool
  pub bytes : List ℕ
  pub packets : List Packet
  pub low : 1 ≤ length bytes
  pub high : length bytes ≤ 9000
  pub others : ArePackets packets
  pub lays : layout q ≡ marked (front_mark first (length bytes)) (bytes ++ layout_packets packets)
  pub fills : (room : ℕ) → fill room q ≡ cond (leb shortest room)
      (fill_front room first bytes packets (fill_waiting (room - (2 + length bytes)) packets))
      (cut_nothing q.rest q.waiting)

pub front : (q : Queue) → IsQueue q → 0 < length (layout q) → Front q
unfolding layout fill_waiting
front q h = go q.rest q.waiting h.0 h.1
  where
    go : (rest : Option (List ℕ)) (ps : List Packet) → IsRest rest → ArePackets ps → 0 < length (layout_rest rest ++ layout_packets ps)
        → Front (record { rest = rest; waiting = ps })
    go none [] r a l = absurd (omega arith)
    go none (p ∷ ps) r a l =
        record { first = true; bytes = p; packets = ps; low = a.0.0; high = a.0.1; others = a.1; lays = refl; fills = λ room. refl }
    go (some rest) ps r a l =
        record { first = false; bytes = rest; packets = ps; low = r.0; high = omega (arith, r.1); others = a; lays = refl; fills = λ room. refl }

-- nothing is filled in where nothing waits
pub nothing : (room : ℕ) (q : Queue) → length (layout q) ≡ 0 → fill room q ≡ cut_nothing q.rest q.waiting
unfolding layout fill_waiting
nothing room q = go q.rest q.waiting
  where
    go : (rest : Option (List ℕ)) (ps : List Packet) → length (layout_rest rest ++ layout_packets ps) ≡ 0
        → fill room (record { rest = rest; waiting = ps }) ≡ cut_nothing rest ps
    go none [] e = refl
    go none (p ∷ ps) e = absurd (omega arith)
    go (some rest) ps e = absurd (omega arith)

mark_fits : (first : Bool) (n : ℕ) → n ≤ 9000 → front_mark first n < 65536
mark_fits true n h = omega arith
mark_fits false n h = omega arith

mark_length : (first : Bool) (n : ℕ) → n ≤ 9000 → front_mark first n % 32768 ≡ n
mark_length true n h = omega arith
mark_length false n h = omega arith

mark_first : (first : Bool) (n : ℕ) → n ≤ 9000 → ltb (front_mark first n) 32768 ≡ first
mark_first true n h = lt-ltb n 32768 (omega arith)
mark_first false n h = le-ltb (32768 + n) 32768 (omega arith)

-- ---- the front packet of the queue that stands in the bytes from a position on
module _ (bytes : List ℕ) (from : ℕ) {q : Queue} (here : layout q ≡ drop from bytes) (f : Front q) where
  stands : drop from bytes ≡ marked (front_mark f.first (length f.bytes)) (f.bytes ++ layout_packets f.packets)
  stands = sym here ∙ f.lays

  pub inside : from + 2 + length f.bytes ≤ length bytes
  inside = omega (arith, ap length stands, length-drop from bytes, length-append f.bytes (layout_packets f.packets))

  mark_is : mark_from bytes from ≡ front_mark f.first (length f.bytes)
  mark_is =
      sym (mark_from_lem bytes from) ∙ ap mark_at stands
      ∙ mark_back (front_mark f.first (length f.bytes)) (f.bytes ++ layout_packets f.packets) (mark_fits f.first (length f.bytes) f.high)

  pub length_is : mark_from bytes from % 32768 ≡ length f.bytes
  length_is = ap (λ (m : ℕ). m % 32768) mark_is ∙ mark_length f.first (length f.bytes) f.high

  pub first_is : ltb (mark_from bytes from) 32768 ≡ f.first
  first_is = ap (λ (m : ℕ). ltb m 32768) mark_is ∙ mark_first f.first (length f.bytes) f.high

  rest_is : drop (from + 2) bytes ≡ f.bytes ++ layout_packets f.packets
  rest_is = sym (drop-drop 2 from bytes) ∙ ap (drop 2) stands

  pub part : (k : ℕ) → k ≤ length f.bytes → take k (drop (from + 2) bytes) ≡ take k f.bytes
  part k h = ap (take k) rest_is ∙ take-append-le k f.bytes (layout_packets f.packets) h

  pub behind : (k : ℕ) → k ≤ length f.bytes → drop (from + 2 + k) bytes ≡ drop k f.bytes ++ layout_packets f.packets
  behind k h = sym (drop-drop k (from + 2) bytes) ∙ ap (drop k) rest_is ∙ drop-append-le k f.bytes (layout_packets f.packets) h
