-- The queue's bytes: what putting adds, and how reading goes on from mark to mark, position by position, as a loop walks them.
use mathlib.Core.Path.{◌≡◌, refl, ap}
use mathlib.Core.Bool.{Bool, true, false, cond, ◌&&◌}
use mathlib.Core.Option.{Option, none, some}
use mathlib.Core.List.{List, [], ◌∷◌, ◌++◌, append_assoc, append-nil}
use Prim.Native.Nat.{ℕ, zero, suc, ◌+◌, ◌-◌, ◌*◌, ◌≤◌, ◌<◌}
use native.Mathlib.Omega.{arith}
use native.Mathlib.Nat.{add-zero, add_assoc}
use native.Mathlib.Decide.{dec_le}
use lib.ListN.{length, get_or, take, drop, length-drop, drop_of_length-le}
use lib.Seq.{drop-drop, get_or-drop}
use lib.Dec.{leb}
use borrow.Author.Tests.{leb-true, le-leb, lt-leb}
use Rattle.basics.proofs.Tests.{left_true, right_true}
use Rattle.link.specs.Link.{Packet, Queue}
use Rattle.link.proofs.Machine.{with_packet}
use Rattle.link.specs.Store.{marked, layout_packets, layout_rest, layout}
use Rattle.basics.specs.Lists.{is_some}
use Rattle.link.specs.Parsing.{mark_at, is_length, with_front, parse_waiting, packets_in, with_rest, parse, is_whole}

-- a mark that is written is read back
pub mark_back : (mark : ℕ) (bytes : List ℕ) → mark < 65536 → mark_at (marked mark bytes) ≡ mark
mark_back mark bytes h = omega arith

-- ---- putting: the mark and the packet stand behind all others

pub lists_append : (ps qs : List Packet) → layout_packets (ps ++ qs) ≡ layout_packets ps ++ layout_packets qs
lists_append [] qs = refl
lists_append (p ∷ ps) qs = rw (lists_append ps qs, append_assoc (marked (length p) p) (layout_packets ps) (layout_packets qs))

pub put_lays : (q : Queue) (p : Packet) → layout (with_packet q p) ≡ layout q ++ marked (length p) p
unfolding layout
put_lays q p = rw (lists_append q.waiting (p ∷ []), append-nil, append_assoc (layout_rest q.rest) (layout_packets q.waiting) (marked (length p) p))

-- ---- reading goes from mark to mark

-- how many packets there may be does not matter, if there may be more than bytes
enough : (k m : ℕ) (a : List ℕ) → length a < k → length a < m → parse_waiting k a ≡ parse_waiting m a
enough zero m a h j = absurd (omega arith)
enough (suc k) zero a h j = absurd (omega arith)
enough (suc k) (suc m) [] h j = refl
enough (suc k) (suc m) (x ∷ a) h j =
    rw (enough k m (drop (2 + mark_at (x ∷ a)) (x ∷ a)) (simp length-drop (omega arith)) (simp length-drop (omega arith)))

-- a mark is read, and reading goes on behind its packet
pub packets_step : (a : List ℕ) → 0 < length a → packets_in a ≡ cond (is_length 9000 (mark_at a) a)
    (with_front (take (mark_at a) (drop 2 a)) (packets_in (drop (2 + mark_at a) a)))
    none
unfolding packets_in
packets_step [] h = absurd (omega arith)
packets_step (x ∷ a) h =
    let l = drop (2 + mark_at (x ∷ a)) (x ∷ a) in
    rw (enough (length (x ∷ a)) (suc (length l)) l (simp length-drop (omega arith)) (omega arith))

-- the same at a position of the queue's bytes
abbrev pub mark_from : List ℕ → ℕ → ℕ
mark_from a i = get_or a i 0 * 256 + get_or a (i + 1) 0

abbrev pub is_length_from : ℕ → ℕ → List ℕ → ℕ → Bool
is_length_from most n a i = leb 1 n && leb n most && leb (i + 2 + n) (length a)

-- what a length that was judged says
pub record Sized (most n at long : ℕ) : Type 0 where
  pub low : 1 ≤ n
  pub high : n ≤ most
  pub room : at + 2 + n ≤ long

pub sized : (bytes : List ℕ) (at n most : ℕ) → is_length_from most n bytes at ≡ true → Sized most n at (length bytes)
sized bytes at n most e =
    let front = left_true (leb 1 n && leb n most) (leb (at + 2 + n) (length bytes)) e in
    record {
      low = leb-true 1 n (left_true (leb 1 n) (leb n most) front);
      high = leb-true n most (right_true (leb 1 n) (leb n most) front);
      room = leb-true (at + 2 + n) (length bytes) (right_true (leb 1 n && leb n most) (leb (at + 2 + n) (length bytes)) e);
    }

pub mark_from_lem : (a : List ℕ) (i : ℕ) → mark_at (drop i a) ≡ mark_from a i
mark_from_lem a i = rw (get_or-drop i a 0 0, get_or-drop i a 1 0, add-zero)

room_from : (a : List ℕ) (i n : ℕ) → i ≤ length a → leb (2 + n) (length (drop i a)) ≡ leb (i + 2 + n) (length a)
room_from a i n h = go (dec_le (i + 2 + n) (length a))
  where
    go : Dec (i + 2 + n ≤ length a) → leb (2 + n) (length (drop i a)) ≡ leb (i + 2 + n) (length a)
    go (yes y) = rw (le-leb (i + 2 + n) (length a) y) (le-leb (2 + n) (length (drop i a)) (simp length-drop (omega arith)))
    go (no y) = rw (lt-leb (i + 2 + n) (length a) (omega arith)) (lt-leb (2 + n) (length (drop i a)) (simp length-drop (omega arith)))

length_from : (most n : ℕ) (a : List ℕ) (i : ℕ) → i ≤ length a → is_length most n (drop i a) ≡ is_length_from most n a i
length_from most n a i h = ap (λ (t : Bool). leb 1 n && leb n most && t) (room_from a i n h)

pub packets_at : (a : List ℕ) (i : ℕ) → i < length a → packets_in (drop i a) ≡ cond (is_length_from 9000 (mark_from a i) a i)
    (with_front (take (mark_from a i) (drop (i + 2) a)) (packets_in (drop (i + 2 + mark_from a i) a)))
    none
packets_at a i h =
    let s = packets_step (drop i a) (simp length-drop (omega arith)) in
    rw (s, mark_from_lem a i, length_from 9000 (mark_from a i) a i (omega arith), drop-drop 2 i a, drop-drop (2 + mark_from a i) i a, add_assoc)

pub packets_end : (a : List ℕ) (i : ℕ) → length a ≤ i → packets_in (drop i a) ≡ some []
unfolding packets_in
packets_end a i h = rw (drop_of_length-le a h)

-- ---- is it whole? The front mark, then mark by mark to the end.

some_cond : {A : Type 0} (test : Bool) (o : Option A) → is_some (cond test o none) ≡ (test && is_some o)
some_cond true o = refl
some_cond false o = refl

some_front : (p : Packet) (o : Option (List Packet)) → is_some (with_front p o) ≡ is_some o
some_front p none = refl
some_front p (some ps) = refl

some_rest : (rest : Option (List ℕ)) (o : Option (List Packet)) → is_some (with_rest rest o) ≡ is_some o
some_rest rest none = refl
some_rest rest (some ps) = refl

-- from position i on there are packets to the end, none of them begun
unfoldable pub whole_from : List ℕ → ℕ → Bool
whole_from a i = is_some (packets_in (drop i a))

pub whole_front : (a : List ℕ) → mark_from a 0 < 32768 → is_whole a ≡ whole_from a 0
unfolding parse is_whole whole_from
whole_front a h = rw (lt-leb 32768 (mark_at a) h, some_rest)

pub whole_begun : (a : List ℕ) → 32768 ≤ mark_from a 0
    → is_whole a ≡ (is_length_from 8999 (mark_from a 0 - 32768) a 0 && whole_from a (2 + (mark_from a 0 - 32768)))
unfolding parse is_whole whole_from
whole_begun a h = rw (le-leb 32768 (mark_at a) h, some_cond, some_rest)

pub whole_step : (a : List ℕ) (i : ℕ) → i < length a → whole_from a i ≡ (is_length_from 9000 (mark_from a i) a i && whole_from a (i + 2 + mark_from a i))
unfolding whole_from
whole_step a i h = rw (packets_at a i h, some_cond, some_front)

pub whole_end : (a : List ℕ) (i : ℕ) → length a ≤ i → whole_from a i ≡ true
unfolding whole_from
whole_end a i h = ap is_some (packets_end a i h)
