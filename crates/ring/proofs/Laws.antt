-- Laws of the ring: reading round, writing round, and a start further on. With a = take start buffer and b = drop start buffer the ring reads b ++ a.
use mathlib.Core.Path.{◌≡◌, refl, sym, ap, ap₂, ◌∙◌}
use mathlib.Core.Logic.{⊎_elim}
use mathlib.Core.List.{List, [], ◌++◌, append_assoc}
use Prim.Native.Nat.{ℕ, ◌+◌, ◌-◌, ◌%◌, ◌≤◌, ◌<◌}
use native.Mathlib.Omega.{arith}
use lib.ListN.{length, get_or, take, drop, length-append, length-take, length-drop, take-append-drop, get_or-append}
use lib.Seq.{take_at, drop_at, take-append-le, drop-append-le, take-append-add, drop-append-add, take-add, drop-drop, length-take-le}
use lib.Seq.{get_or-append-add, get_or-drop, get_or-take}
use Rattle.basics.specs.Lists.{Bytes}
use Rattle.basics.proofs.Lists.{bytes_append, bytes_take, bytes_drop}
use Rattle.basics.proofs.Tests.{lt_or_ge}
use Rattle.lent.specs.Written.{written}
use Rattle.lent.proofs.Written.{written_length, written_append, written_left, written_right, written_nothing, written_own_behind, bytes_written}
use Rattle.ring.specs.Ring.{round_from, ring_written}

-- two lists, one behind the other, change places
swap : (b a : List ℕ) (n : ℕ) → length b ≡ n → round_from n (b ++ a) ≡ a ++ b
unfolding round_from
swap b a n h = rw (drop_at b a n h, take_at b a n h)

-- ---- reading round

pub round_length : (start : ℕ) (buffer : List ℕ) → length (round_from start buffer) ≡ length buffer
unfolding round_from
round_length start buffer = simp (length-append, length-drop, length-take) (omega arith)

pub round_bytes : (start : ℕ) (buffer : List ℕ) → Bytes buffer → Bytes (round_from start buffer)
unfolding round_from
round_bytes start buffer b = bytes_append (drop start buffer) (take start buffer) (bytes_drop start buffer b) (bytes_take start buffer b)

module _ (start : ℕ) (buffer : List ℕ) (h : start ≤ length buffer) where
  abbrev near : ℕ
  near = length buffer - start

  -- a byte before the buffer's end, and one behind it
  pub byte_near : (i : ℕ) → i < near → get_or buffer (start + i) 0 ≡ get_or (round_from start buffer) i 0
  unfolding round_from
  byte_near i l = sym (get_or-append (drop start buffer) (take start buffer) 0 i (simp length-drop l) ∙ get_or-drop start buffer i 0)

  pub byte_far : (i : ℕ) → near ≤ i → i < length buffer → get_or buffer (i - near) 0 ≡ get_or (round_from start buffer) i 0
  unfolding round_from
  byte_far i g l =
      let k = i - near in
      let e : length (drop start buffer) + k ≡ i = rw (length-drop start buffer) (omega arith) in
      sym (ap (λ (j : ℕ). get_or (drop start buffer ++ take start buffer) j 0) (sym e)
      ∙ get_or-append-add (drop start buffer) (take start buffer) k 0 ∙ get_or-take start buffer k 0 (omega arith))

  -- n bytes before the buffer's end, and behind it
  pub part_near : (at n : ℕ) → at + n ≤ near → take n (drop (start + at) buffer) ≡ take n (drop at (round_from start buffer))
  unfolding round_from
  part_near at n l =
      let b = drop start buffer in
      let long : length b ≡ near = length-drop start buffer in
      sym (ap (take n) (drop-append-le at b (take start buffer) (omega (arith, long)))
      ∙ take-append-le n (drop at b) (take start buffer) (rw (length-drop at b) (omega (arith, long)))
      ∙ ap (take n) (drop-drop at start buffer))

  pub part_far : (at n : ℕ) → near ≤ at → at + n ≤ length buffer → take n (drop (at - near) buffer) ≡ take n (drop at (round_from start buffer))
  unfolding round_from
  part_far at n g l =
      let a = take start buffer in
      let b = drop start buffer in
      let k = at - near in
      let e : length b + k ≡ at = rw (length-drop start buffer) (omega arith) in
      let long : length a ≡ start = length-take-le start buffer h in
      let own : take n (drop k buffer) ≡ take n (drop k a) =
      ap (λ (l : List ℕ). take n (drop k l)) (sym (take-append-drop start buffer)) ∙ ap (take n) (drop-append-le k a b (omega (arith, long)))
      ∙ take-append-le n (drop k a) b (rw (length-drop k a) (omega (arith, long))) in
      own ∙ sym (ap (λ (j : ℕ). take n (drop j (b ++ a))) (sym e) ∙ ap (take n) (drop-append-add b a k))

-- two parts, one behind the other
part_both : (l : List ℕ) (at k m : ℕ) → take k (drop at l) ++ take m (drop (at + k) l) ≡ take (k + m) (drop at l)
part_both l at k m = sym (take-add k m (drop at l) ∙ ap (λ (t : List ℕ). take k (drop at l) ++ take m t) (drop-drop k at l))

-- n bytes over the buffer's end: k up to it, and those behind it at its front
pub part_over : (start : ℕ) (buffer : List ℕ) (at n k : ℕ) → start ≤ length buffer → at + n ≤ length buffer → at + k ≡ length buffer - start → k ≤ n
    → take k (drop (start + at) buffer) ++ take (n - k) buffer ≡ take n (drop at (round_from start buffer))
part_over start buffer at n k h l e f =
    let r = round_from start buffer in
    let zero : at + k - (length buffer - start) ≡ 0 = omega arith in
    let all : k + (n - k) ≡ n = omega arith in
    ap₂ (λ (x y : List ℕ). x ++ y) (part_near start buffer h at k (omega arith))
    (ap (λ (m : ℕ). take (n - k) (drop m buffer)) (sym zero) ∙ part_far start buffer h (at + k) (n - k) (omega arith) (omega arith))
    ∙ part_both r at k (n - k) ∙ ap (λ (m : ℕ). take m (drop at r)) all

-- the same, copied in two parts
pub copied_over : (out : List ℕ) (to : ℕ) (start : ℕ) (buffer : List ℕ) (at n k : ℕ) → to + n ≤ length out → start ≤ length buffer → at + n ≤ length buffer
    → at + k ≡ length buffer - start → k ≤ n
    → written (written out to (take (length buffer - (start + at)) (drop (start + at) buffer))) (to + k) (take (n - k) buffer)
    ≡ written out to (take n (drop at (round_from start buffer)))
copied_over out to start buffer at n k o h l e f =
    let same : length buffer - (start + at) ≡ k = omega arith in
    let front = take k (drop (start + at) buffer) in
    let long : length front ≡ k = simp (length-take, length-drop) (omega arith) in
    let rest : length (take (n - k) buffer) ≡ n - k = length-take-le (n - k) buffer (omega arith) in
    ap (λ (m : ℕ). written (written out to (take m (drop (start + at) buffer))) (to + k) (take (n - k) buffer)) same
    ∙ ap (λ (m : ℕ). written (written out to front) (to + m) (take (n - k) buffer)) (sym long)
    ∙ written_append out to front (take (n - k) buffer) (omega (arith, long, rest))
    ∙ ap (written out to) (part_over start buffer at n k h l e f)

-- ---- writing round

module _ (buffer : List ℕ) (start at : ℕ) (s : List ℕ) (h : start ≤ length buffer) (l : at + length s ≤ length buffer) where
  inside_length : length (written (round_from start buffer) at s) ≡ length buffer
  inside_length = written_length (round_from start buffer) at s (rw (round_length start buffer) l) ∙ round_length start buffer

  pub ring_length : length (ring_written buffer start at s) ≡ length buffer
  unfolding ring_written
  ring_length = round_length (length buffer - start) (written (round_from start buffer) at s) ∙ inside_length

  -- what was written is read round
  pub ring_read : round_from start (ring_written buffer start at s) ≡ written (round_from start buffer) at s
  unfolding ring_written
  ring_read =
      let w = written (round_from start buffer) at s in
      let n = length buffer - start in
      let back : round_from n w ≡ drop n w ++ take n w = unfold round_from in refl in
      ap (round_from start) back ∙ swap (drop n w) (take n w) start (length-drop n w ∙ rw inside_length (omega arith)) ∙ take-append-drop n w

  -- as it is written into the buffer: all before its end,
  pub ring_near : at + length s ≤ length buffer - start → written buffer (start + at) s ≡ ring_written buffer start at s
  unfolding ring_written round_from
  ring_near f =
      let a = take start buffer in
      let b = drop start buffer in
      let long-a : length a ≡ start = length-take-le start buffer h in
      let long-b : length b ≡ length buffer - start = length-drop start buffer in
      let fits : at + length s ≤ length b = rw long-b f in
      let here : written buffer (start + at) s ≡ a ++ written b at s =
      ap (λ (l : List ℕ). written l (start + at) s) (sym (take-append-drop start buffer))
      ∙ ap (λ (m : ℕ). written (a ++ b) (m + at) s) (sym long-a) ∙ written_right a b at s in
      here ∙ sym (ap (round_from (length buffer - start)) (written_left b a at s fits)
      ∙ swap (written b at s) a (length buffer - start) (written_length b at s fits ∙ long-b))

  -- or all behind it
  pub ring_far : length buffer - start ≤ at → written buffer (at - (length buffer - start)) s ≡ ring_written buffer start at s
  unfolding ring_written round_from
  ring_far g =
      let a = take start buffer in
      let b = drop start buffer in
      let k = at - (length buffer - start) in
      let long-a : length a ≡ start = length-take-le start buffer h in
      let long-b : length b ≡ length buffer - start = length-drop start buffer in
      let e : length b + k ≡ at = rw long-b (omega arith) in
      let here : written buffer k s ≡ written a k s ++ b =
      ap (λ (l : List ℕ). written l k s) (sym (take-append-drop start buffer)) ∙ written_left a b k s (rw long-a (omega arith)) in
      here ∙ sym (ap (λ (m : ℕ). round_from (length buffer - start) (written (b ++ a) m s)) (sym e)
      ∙ ap (round_from (length buffer - start)) (written_right b a k s) ∙ swap b (written a k s) (length buffer - start) long-b)

-- one part after the other
pub ring_append : (buffer : List ℕ) (start at : ℕ) (s t : List ℕ) → start ≤ length buffer → at + length s + length t ≤ length buffer
    → ring_written (ring_written buffer start at s) start (at + length s) t ≡ ring_written buffer start at (s ++ t)
ring_append buffer start at s t h l =
    let r = round_from start buffer in
    let once = ring_written buffer start at s in
    let shorter : at + length s ≤ length buffer = omega arith in
    let outer : ring_written once start (at + length s) t ≡ round_from (length once - start) (written (round_from start once) (at + length s) t) =
    unfold ring_written in refl in
    let all : ring_written buffer start at (s ++ t) ≡ round_from (length buffer - start) (written r at (s ++ t)) = unfold ring_written in refl in
    outer
    ∙ ap₂ (λ (n : ℕ) (w : List ℕ). round_from (n - start) (written w (at + length s) t))
    (ring_length buffer start at s h shorter) (ring_read buffer start at s h shorter)
    ∙ ap (round_from (length buffer - start)) (written_append r at s t (rw (round_length start buffer) l)) ∙ sym all

-- k bytes up to the buffer's end, and those behind it at its front
pub ring_over : (buffer : List ℕ) (start at k : ℕ) (s : List ℕ)
    → start ≤ length buffer → at + length s ≤ length buffer → at + k ≡ length buffer - start → k ≤ length s
    → written (written buffer (start + at) (take k s)) 0 (drop k s) ≡ ring_written buffer start at s
ring_over buffer start at k s h l e f =
    let long : length (take k s) ≡ k = length-take-le k s f in
    let rest : length (drop k s) ≡ length s - k = length-drop k s in
    let once = ring_written buffer start at (take k s) in
    let front : at + length (take k s) ≤ length buffer = omega (arith, long) in
    let size : length once ≡ length buffer = ring_length buffer start at (take k s) h front in
    let zero : at + length (take k s) - (length once - start) ≡ 0 = omega (arith, long, size) in
    ap (λ (w : List ℕ). written w 0 (drop k s)) (ring_near buffer start at (take k s) h front (omega (arith, long)))
    ∙ ap (λ (m : ℕ). written once m (drop k s)) (sym zero)
    ∙ ring_far once start (at + length (take k s)) (drop k s) (omega (arith, size)) (omega (arith, long, rest, size)) (omega (arith, long, size))
    ∙ ring_append buffer start at (take k s) (drop k s) h (omega (arith, long, rest))
    ∙ ap (ring_written buffer start at) (take-append-drop k s)

-- nothing is written
pub ring_nothing : (buffer : List ℕ) (start : ℕ) → start ≤ length buffer → ring_written buffer start 0 [] ≡ buffer
unfolding ring_written round_from
ring_nothing buffer start h =
    ap (round_from (length buffer - start)) (written_nothing (round_from start buffer) 0)
    ∙ swap (drop start buffer) (take start buffer) (length buffer - start) (length-drop start buffer) ∙ take-append-drop start buffer

-- writing bytes that stand there already changes nothing
pub ring_kept : (buffer : List ℕ) (start : ℕ) (m : List ℕ) (j : ℕ) → length m + j ≤ length buffer
    → ring_written buffer start 0 (m ++ take j (drop (length m) (round_from start buffer))) ≡ ring_written buffer start 0 m
unfolding ring_written
ring_kept buffer start m j h = ap (round_from (length buffer - start)) (written_own_behind (round_from start buffer) m j (rw (round_length start buffer) h))

-- what is written into bytes is bytes
pub ring_bytes : (buffer : List ℕ) (start at : ℕ) (s : List ℕ) → Bytes buffer → Bytes s → Bytes (ring_written buffer start at s)
unfolding ring_written
ring_bytes buffer start at s b c =
    round_bytes (length buffer - start) (written (round_from start buffer) at s) (bytes_written (round_from start buffer) at s (round_bytes start buffer b) c)

-- ---- a start k bytes further on

module _ (start k : ℕ) (buffer : List ℕ) (h : start ≤ length buffer) where
  further_near : start + k ≤ length buffer → round_from (start + k) buffer ≡ round_from k (round_from start buffer)
  unfolding round_from
  further_near l =
      let a = take start buffer in
      let b = drop start buffer in
      let fits : k ≤ length b = rw (length-drop start buffer) (omega arith) in
      rw (drop-append-le k b a fits, take-append-le k b a fits, take-add start k buffer, ← drop-drop k start buffer)
      (sym (append_assoc (drop k b) a (take k b)))

  further_over : length buffer ≤ start + k → k ≤ length buffer → round_from (start + k - length buffer) buffer ≡ round_from k (round_from start buffer)
  unfolding round_from
  further_over g l =
      let a = take start buffer in
      let b = drop start buffer in
      let j = start + k - length buffer in
      let e : length b + j ≡ k = rw (length-drop start buffer) (omega arith) in
      let fits : j ≤ length a = rw (length-take-le start buffer h) (omega arith) in
      let there : drop k (b ++ a) ++ take k (b ++ a) ≡ drop j a ++ (b ++ take j a) =
      ap (λ (m : ℕ). drop m (b ++ a) ++ take m (b ++ a)) (sym e) ∙ ap₂ (λ (x y : List ℕ). x ++ y) (drop-append-add b a j) (take-append-add b a j) in
      let here : drop j buffer ++ take j buffer ≡ (drop j a ++ b) ++ take j a =
      ap (λ (l : List ℕ). drop j l ++ take j l) (sym (take-append-drop start buffer))
      ∙ ap₂ (λ (x y : List ℕ). x ++ y) (drop-append-le j a b fits) (take-append-le j a b fits) in
      here ∙ append_assoc (drop j a) b (take j a) ∙ sym there

-- the same in a ring of 32,768
module _ (buffer : List ℕ) (start k : ℕ) (long : length buffer ≡ 32768) (h : start < 32768) (g : k ≤ 32768) where
  further : round_from ((start + k) % 32768) buffer ≡ round_from k (round_from start buffer)
  further = ⊎_elim near_end over_end_lem (lt_or_ge (start + k) 32768)
    where
      near_end : start + k < 32768 → round_from ((start + k) % 32768) buffer ≡ round_from k (round_from start buffer)
      near_end l =
          let e : (start + k) % 32768 ≡ start + k = omega arith in
          ap (λ (m : ℕ). round_from m buffer) e ∙ further_near start k buffer (omega (arith, long)) (omega (arith, long))

      over_end_lem : 32768 ≤ start + k → round_from ((start + k) % 32768) buffer ≡ round_from k (round_from start buffer)
      over_end_lem l =
          let e : (start + k) % 32768 ≡ start + k - length buffer = omega (arith, long) in
          ap (λ (m : ℕ). round_from m buffer) e ∙ further_over start k buffer (omega (arith, long)) (omega (arith, long)) (omega (arith, long))

  -- what stands behind the new start stood k bytes further behind the old one
  pub further_part : (i j : ℕ) → k + i + j ≤ 32768 → take j (drop (k + i) (round_from start buffer)) ≡ take j (drop i (round_from ((start + k) % 32768) buffer))
  further_part i j l =
      let size = round_length start buffer ∙ long in
      part_near k (round_from start buffer) (omega (arith, size)) i j (omega (arith, size)) ∙ ap (λ (r : List ℕ). take j (drop i r)) (sym further)
