-- The queue's bytes both ways: what is laid out is read back, and what is read is a queue that is laid out as the very bytes.
use mathlib.Core.Path.{◌≡◌, refl, ap, sym, ◌∙◌}
use mathlib.Core.Logic.{◌↔◌}
use mathlib.Core.Bool.{Bool, true, false, cond}
use mathlib.Core.Option.{Option, none, some}
use mathlib.Core.List.{List, [], ◌∷◌, ◌++◌}
use Prim.Native.Nat.{ℕ, ◌+◌, ◌-◌, ◌*◌, ◌/◌, ◌%◌, ◌≤◌, ◌<◌}
use native.Mathlib.Omega.{arith}
use lib.ListN.{length, take, drop, length-append, length-take, length-drop, take-append-drop}
use lib.Seq.{take-append_seam, drop-append_seam, drop-drop}
use lib.Dec.{leb}
use borrow.Author.Tests.{leb-true, le-leb, lt-leb}
use Rattle.basics.specs.Lists.{Bytes}
use Rattle.basics.proofs.Lists.{bytes_drop}
use Rattle.link.specs.Link.{Packet, IsPacket, ArePackets, Queue, IsRest, IsQueue}
use Rattle.link.proofs.Machine.{with_packet}
use Rattle.link.specs.Store.{marked, layout_packets, layout_rest, layout}
use Rattle.link.specs.Parsing.{mark_at, is_length, with_front, packets_in, with_rest, parse_begun, parse}
use Rattle.link.proofs.Sender.{put_queue}
use Rattle.link.proofs.Store.{put_lays, mark_back, Sized, sized, packets_step, packets_end}

-- ---- what is laid out is read back

-- the bytes that a mark stands before, and what is behind them
front : (x y : ℕ) (p l : List ℕ) → take (length p) (drop 2 (x ∷ y ∷ (p ++ l))) ≡ p
front x y p l = take-append_seam p l

behind : (x y : ℕ) (p l : List ℕ) → drop (2 + length p) (x ∷ y ∷ (p ++ l)) ≡ l
behind x y p l = sym (drop-drop (length p) 2 (x ∷ y ∷ (p ++ l))) ∙ drop-append_seam p l

is_length_lem : (most n : ℕ) (x y : ℕ) (p l : List ℕ) → length p ≡ n → 1 ≤ n → n ≤ most → is_length most n (x ∷ y ∷ (p ++ l)) ≡ true
is_length_lem most n x y p l e low high =
    rw (le-leb 1 n low, le-leb n most high) (le-leb (2 + n) (length (x ∷ y ∷ (p ++ l))) (omega (arith, length-append p l)))

pub packets_back : (ps : List Packet) → ArePackets ps → packets_in (layout_packets ps) ≡ some ps
packets_back [] h = packets_end [] 0 (omega arith)
packets_back (p ∷ ps) h =
    packets_step (layout_packets (p ∷ ps)) (omega arith)
    ∙ rw (
      mark_back (length p) (p ++ layout_packets ps) (omega (arith, h.0.1)),
      is_length_lem 9000 (length p) (length p / 256 % 256) (length p % 256) p (layout_packets ps) refl h.0.0 h.0.1,
      front (length p / 256 % 256) (length p % 256) p (layout_packets ps),
      behind (length p / 256 % 256) (length p % 256) p (layout_packets ps),
      packets_back ps h.1,
    )

pub parse_back : (q : Queue) → IsQueue q → parse (layout q) ≡ some q
unfolding layout parse
parse_back q h = go q.rest q.waiting h.0 h.1
  where
    go : (rest : Option (List ℕ)) (ps : List Packet) → IsRest rest → ArePackets ps
        → parse (layout_rest rest ++ layout_packets ps) ≡ some (record { rest = rest; waiting = ps })
    go none [] k a = ap (with_rest none) (packets_back [] tt)
    go none (p ∷ ps) k a =
        rw (packets_back (p ∷ ps) a, mark_back (length p) (p ++ layout_packets ps) (omega (arith, a.0.1)), lt-leb 32768 (length p) (omega (arith, a.0.1)))
    go (some r) ps k a =
        let m = 32768 + length r in
        let e : m - 32768 ≡ length r = omega arith in
        rw (
          mark_back m (r ++ layout_packets ps) (omega (arith, k.1)),
          le-leb 32768 m (omega arith),
          e,
          is_length_lem 8999 (length r) (m / 256 % 256) (m % 256) r (layout_packets ps) refl k.0 k.1,
          front (m / 256 % 256) (m % 256) r (layout_packets ps),
          behind (m / 256 % 256) (m % 256) r (layout_packets ps),
          packets_back ps a,
        )

-- ---- what reading says of the bytes

cond_some : {A : Type 0} (test : Bool) (o : Option A) (x : A) → cond test o none ≡ some x → (test ≡ true) × (o ≡ some x)
cond_some true o x e = (refl, e)
cond_some false o x e = let z : ◌≡◌ {A = ℕ} 0 1 = cc in absurd (omega arith)

front_some : (p : Packet) (o : Option (List Packet)) (x : Packet) (xs : List Packet) → with_front p o ≡ some (x ∷ xs) → (x ≡ p) × (o ≡ some xs)
front_some p none x xs e = let z : ◌≡◌ {A = ℕ} 0 1 = cc in absurd (omega arith)
front_some p (some ps) x xs e = (cc, cc)

none_left : (p : Packet) (o : Option (List Packet)) → with_front p o ≡ some [] → ⊥
none_left p none e = let z : ◌≡◌ {A = ℕ} 0 1 = cc in omega arith
none_left p (some ps) e = let z : ◌≡◌ {A = ℕ} 0 1 = cc in omega arith

rest_some : (rest : Option (List ℕ)) (o : Option (List Packet)) (q : Queue) → with_rest rest o ≡ some q → (q.rest ≡ rest) × (o ≡ some q.waiting)
rest_some rest none q e = let z : ◌≡◌ {A = ℕ} 0 1 = cc in absurd (omega arith)
rest_some rest (some ps) q e =
    let f : record { rest = rest; waiting = ps } ≡ q = cc in
    (sym (ap (λ (x : Queue). x.rest) f), ap (λ (x : Queue). some x.waiting) f)

-- the packet behind a mark of n
length_front : (most n : ℕ) (a : List ℕ) → Sized most n 0 (length a) → length (take n (drop 2 a)) ≡ n
length_front most n a s = simp (length-take, length-drop) (omega (arith, s.room))

-- the first packet, and the others
record Front (a : List ℕ) (p : Packet) (ps : List Packet) : Type 0 where
  is : p ≡ take (mark_at a) (drop 2 a)
  goes_on : packets_in (drop (2 + mark_at a) a) ≡ some ps
  says : Sized 9000 (mark_at a) 0 (length a)

packets_read_lem : (a : List ℕ) (ps : List Packet) → 0 < length a → packets_in a ≡ some ps
    → (is_length 9000 (mark_at a) a ≡ true) × (with_front (take (mark_at a) (drop 2 a)) (packets_in (drop (2 + mark_at a) a)) ≡ some ps)
packets_read_lem a ps h e =
    cond_some (is_length 9000 (mark_at a) a) (with_front (take (mark_at a) (drop 2 a)) (packets_in (drop (2 + mark_at a) a))) ps (sym (packets_step a h) ∙ e)

packets_front : (a : List ℕ) (p : Packet) (ps : List Packet) → packets_in a ≡ some (p ∷ ps) → Front a p ps
packets_front [] p ps e =
    let f : some [] ≡ some (p ∷ ps) = sym (packets_end [] 0 (omega arith)) ∙ e in
    let z : ◌≡◌ {A = ℕ} 0 1 = cc in
    absurd (omega arith)
packets_front (x ∷ l) p ps e =
    let a = x ∷ l in
    let c = packets_read_lem a (p ∷ ps) (omega arith) e in
    let f = front_some (take (mark_at a) (drop 2 a)) (packets_in (drop (2 + mark_at a) a)) p ps c.1 in
    record { is = f.0; goes_on = f.1; says = sized a 0 (mark_at a) 9000 c.0 }

-- the same of a queue: a packet is begun, or none is
pub data Parsed (a : List ℕ) (q : Queue) : Type 0 where
  begun_front : 32768 ≤ mark_at a → Sized 8999 (mark_at a - 32768) 0 (length a) → q.rest ≡ some (take (mark_at a - 32768) (drop 2 a))
      → packets_in (drop (2 + (mark_at a - 32768)) a) ≡ some q.waiting → Parsed a q
  plain_front : q.rest ≡ none → packets_in a ≡ some q.waiting → Parsed a q

pub parsed : (a : List ℕ) (q : Queue) → parse a ≡ some q → Parsed a q
unfolding parse
parsed a q = go (leb 32768 (mark_at a)) refl
  where
    n : ℕ
    n = mark_at a - 32768

    go : (test : Bool) → leb 32768 (mark_at a) ≡ test → cond test (parse_begun n a) (with_rest none (packets_in a)) ≡ some q → Parsed a q
    go true t e =
        let c = cond_some (is_length 8999 n a) (with_rest (some (take n (drop 2 a))) (packets_in (drop (2 + n) a))) q e in
        let r = rest_some (some (take n (drop 2 a))) (packets_in (drop (2 + n) a)) q c.1 in
        begun_front (leb-true 32768 (mark_at a) t) (sized a 0 n 8999 c.0) r.0 r.1
    go false t e = let r = rest_some none (packets_in a) q e in plain_front r.0 r.1

-- ---- what is read is a queue ..

packets_are : (ps : List Packet) (a : List ℕ) → packets_in a ≡ some ps → ArePackets ps
packets_are [] a e = tt
packets_are (p ∷ ps) a e =
    let f = packets_front a p ps e in
    let n : length p ≡ mark_at a = ap length f.is ∙ length_front 9000 (mark_at a) a f.says in
    ((omega (arith, f.says.low), omega (arith, f.says.high)), packets_are ps (drop (2 + mark_at a) a) f.goes_on)

pub parse_queue : (a : List ℕ) (q : Queue) → parse a ≡ some q → IsQueue q
parse_queue a q e = go (parsed a q e)
  where
    go : Parsed a q → IsQueue q
    go (begun_front t s r w) =
        (rw (r, length_front 8999 (mark_at a - 32768) a s) (s.low, s.high), packets_are q.waiting (drop (2 + (mark_at a - 32768)) a) w)
    go (plain_front r w) = (rw r tt, packets_are q.waiting a w)

-- ---- .. and is laid out as it stood

pub marked_back : (a : List ℕ) → Bytes a → 2 ≤ length a → marked (mark_at a) (drop 2 a) ≡ a
marked_back [] b h = absurd (omega arith)
marked_back (x ∷ []) b h = absurd (omega arith)
marked_back (x ∷ y ∷ l) b h =
    let high : (x * 256 + y) / 256 % 256 ≡ x = omega (arith, b.0, b.1.0) in
    let low : (x * 256 + y) % 256 ≡ y = omega (arith, b.1.0) in
    rw (high, low)

lays_back : (a later : List ℕ) (n : ℕ) → Bytes a → 2 + n ≤ length a → later ≡ drop (2 + n) a → marked (mark_at a) (take n (drop 2 a)) ++ later ≡ a
lays_back a later n b h e =
    rw (e, ← drop-drop n 2 a, take-append-drop n (drop 2 a)) (marked_back a b (omega arith))

packets_lay : (ps : List Packet) (a : List ℕ) → Bytes a → packets_in a ≡ some ps → layout_packets ps ≡ a
packets_lay [] [] b e = refl
packets_lay [] (x ∷ l) b e =
    let a = x ∷ l in
    absurd (none_left (take (mark_at a) (drop 2 a)) (packets_in (drop (2 + mark_at a) a)) (packets_read_lem a [] (omega arith) e).1)
packets_lay (p ∷ ps) a b e =
    let f = packets_front a p ps e in
    let n : length p ≡ mark_at a = ap length f.is ∙ length_front 9000 (mark_at a) a f.says in
    let later = packets_lay ps (drop (2 + mark_at a) a) (bytes_drop (2 + mark_at a) a b) f.goes_on in
    rw (n, f.is) (lays_back a (layout_packets ps) (mark_at a) b f.says.room later)

-- What is read from bytes is laid out as those bytes.
pub layout_back : (a : List ℕ) (q : Queue) → Bytes a → parse a ≡ some q → layout q ≡ a
unfolding layout
layout_back a q b e = go (parsed a q e)
  where
    go : Parsed a q → layout q ≡ a
    go (begun_front t s r w) =
        let n = mark_at a - 32768 in
        let m : 32768 + length (take n (drop 2 a)) ≡ mark_at a = rw (length_front 8999 n a s) (omega arith) in
        let later = packets_lay q.waiting (drop (2 + n) a) (bytes_drop (2 + n) a b) w in
        rw (r, m) (lays_back a (layout_packets q.waiting) n b s.room later)
    go (plain_front r w) = rw r (packets_lay q.waiting a b w)

-- So bytes are whole exactly where they are the layout of a queue.
pub parse_iff : (a : List ℕ) (q : Queue) → Bytes a → (parse a ≡ some q) ↔ (IsQueue q × (layout q ≡ a))
parse_iff a q b = (λ e. (parse_queue a q e, layout_back a q b e), λ h. rw (← h.1) (parse_back q h.0))

-- A packet put behind whole bytes.
pub parse_put : (a : List ℕ) (q : Queue) (p : Packet) → Bytes a → parse a ≡ some q → IsPacket p → parse (a ++ marked (length p) p) ≡ some (with_packet q p)
parse_put a q p b e h =
    rw (← layout_back a q b e, ← put_lays) (parse_back (with_packet q p) (put_queue q p (parse_queue a q e) h))
