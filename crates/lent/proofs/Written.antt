-- Laws of `written`.
use mathlib.Core.Path.{◌≡◌, sym, ap, ◌∙◌}
use mathlib.Core.List.{List, [], ◌++◌, append_assoc, append-nil}
use Prim.Native.Nat.{ℕ, ◌+◌, ◌-◌, ◌≤◌, ◌<◌}
use native.Mathlib.Nat.{add_assoc, add-zero, zero-add}
use native.Mathlib.Omega.{arith}
use lib.ListN.{length, get_or, take, drop, length-take, length-drop, length-append, take-append-drop, get_or-append}
use lib.Seq.{take-append-le, take-append-add, drop-append-le, drop-append-add, get_or-append-add, get_or-drop, get_or-take}
use lib.Seq.{take_at, drop_at, drop-drop, drop-length, length-take-le}
use borrow.Rule.Slice.PartMut.{put_mid}
use Rattle.basics.specs.Lists.{Bytes}
use Rattle.basics.proofs.Lists.{bytes_append, bytes_take, bytes_drop}
use Rattle.lent.specs.Written.{written}

module _ (d : List ℕ) (at : ℕ) (s : List ℕ) (h : at + length s ≤ length d) where
  head_length : length (take at d ++ s) ≡ at + length s
  head_length = simp (length-append, length-take) (omega arith)

  pub written_length : length (written d at s) ≡ length d
  unfolding written
  written_length = simp (length-append, length-take, length-drop) (omega arith)

  pub take_written : take (at + length s) (written d at s) ≡ take at d ++ s
  unfolding written
  take_written = take_at (take at d ++ s) (drop (at + length s) d) (at + length s) head_length

  pub drop_written : (k : ℕ) → drop (at + length s + k) (written d at s) ≡ drop (at + length s + k) d
  unfolding written
  drop_written k =
      sym (drop-drop k (at + length s) (take at d ++ s ++ drop (at + length s) d))
      ∙ ap (drop k) (drop_at (take at d ++ s) (drop (at + length s) d) (at + length s) head_length)
      ∙ drop-drop k (at + length s) d

  -- byte by byte: what was written stands there, and all others keep their values
  pub written_there : (k : ℕ) → k < length s → get_or (written d at s) (at + k) 0 ≡ get_or s k 0
  unfolding written
  written_there k l =
      get_or-append (take at d ++ s) (drop (at + length s) d) 0 (at + k) (rw head_length (omega arith))
      ∙ ap (λ (n : ℕ). get_or (take at d ++ s) (n + k) 0) (sym (length-take-le at d (omega arith))) ∙ get_or-append-add (take at d) s k 0

  pub kept_before : (i : ℕ) → i < at → get_or (written d at s) i 0 ≡ get_or d i 0
  unfolding written
  kept_before i l =
      get_or-append (take at d ++ s) (drop (at + length s) d) 0 i (rw head_length (omega arith))
      ∙ get_or-append (take at d) s 0 i (rw (length-take-le at d (omega arith)) l) ∙ get_or-take at d i 0 l

  pub kept_behind : (i : ℕ) → at + length s ≤ i → get_or (written d at s) i 0 ≡ get_or d i 0
  unfolding written
  kept_behind i l =
      let k = i - (at + length s) in
      let e : at + length s + k ≡ i = omega arith in
      let j : length (take at d ++ s) + k ≡ i = ap (λ (n : ℕ). n + k) head_length ∙ e in
      ap (λ (n : ℕ). get_or (take at d ++ s ++ drop (at + length s) d) n 0) (sym j)
      ∙ get_or-append-add (take at d ++ s) (drop (at + length s) d) k 0 ∙ get_or-drop (at + length s) d k 0 ∙ ap (λ (n : ℕ). get_or d n 0) e

-- one part after the other
pub written_append : (d : List ℕ) (at : ℕ) (s t : List ℕ) → at + length s + length t ≤ length d
    → written (written d at s) (at + length s) t ≡ written d at (s ++ t)
unfolding written
written_append d at s t h =
    ap (λ l. l ++ t ++ drop (at + length s + length t) (written d at s)) (take_written d at s (omega arith))
    ∙ ap (λ l. (take at d ++ s) ++ t ++ l) (drop_written d at s (omega arith) (length t))
    ∙ simp (append_assoc, length-append, add_assoc)

-- what a copy into the part from at leaves of the whole
pub copied_part : (d : List ℕ) (at : ℕ) (s : List ℕ) → put_mid at (at + length s - at) d s ≡ written d at s
unfolding written
copied_part d at s =
    let e : at + (at + length s - at) ≡ at + length s = omega arith in
    ap (λ (l : List ℕ). take at d ++ (s ++ l)) (drop-drop (at + length s - at) at d ∙ ap (λ (n : ℕ). drop n d) e)
    ∙ sym (append_assoc (take at d) s (drop (at + length s) d))

-- as many bytes as the buffer has
pub written_whole : (d s : List ℕ) → length s ≡ length d → written d 0 s ≡ s
unfolding written
written_whole d s e = rw (zero-add, e, drop-length) (append-nil s)

-- a buffer that is filled in two parts
pub written_parts : (d s t : List ℕ) (at : ℕ) → length s ≡ at → at + length t ≡ length d → written (written d 0 s) at t ≡ s ++ t
written_parts d s t at e h =
    let whole : length (s ++ t) ≡ length d = simp length-append (omega arith) in
    let next : 0 + length s ≡ at = zero-add (length s) ∙ e in
    ap (λ (i : ℕ). written (written d 0 s) i t) (sym next) ∙ written_append d 0 s t (omega arith) ∙ written_whole d (s ++ t) whole

-- bytes that are written into bytes are bytes
pub bytes_written : (d : List ℕ) (at : ℕ) (s : List ℕ) → Bytes d → Bytes s → Bytes (written d at s)
unfolding written
bytes_written d at s b c =
    bytes_append (take at d ++ s) (drop (at + length s) d) (bytes_append (take at d) s (bytes_take at d b) c) (bytes_drop (at + length s) d b)

-- nothing is written
pub written_nothing : (d : List ℕ) (at : ℕ) → written d at [] ≡ d
unfolding written
written_nothing d at = rw (add-zero, append-nil) (take-append-drop at d)

-- behind a part that stands already
pub written_behind : (d : List ℕ) (at : ℕ) (s : List ℕ) → at ≤ length d → written d at s ≡ written d 0 (take at d ++ s)
unfolding written
written_behind d at s h = rw (zero-add, length-append, length-take-le at d h)

-- a buffer's own front
pub written_own : (d : List ℕ) (n : ℕ) → n ≤ length d → written d 0 (take n d) ≡ d
unfolding written
written_own d n h = rw (zero-add, length-take-le n d h) (take-append-drop n d)

-- bytes that stand there already, behind others that do not
pub written_own_behind : (d m : List ℕ) (j : ℕ) → length m + j ≤ length d → written d 0 (m ++ take j (drop (length m) d)) ≡ written d 0 m
unfolding written
written_own_behind d m j h =
    let t = take j (drop (length m) d) in
    let long : length t ≡ j = simp (length-take, length-drop) (omega arith) in
    rw (zero-add, zero-add, length-append m t, long, ← drop-drop j (length m) d)
    (append_assoc m t (drop j (drop (length m) d)) ∙ ap (λ (l : List ℕ). m ++ l) (take-append-drop j (drop (length m) d)))

-- written into the first of two lists, one behind the other
pub written_left : (b a : List ℕ) (at : ℕ) (s : List ℕ) → at + length s ≤ length b → written (b ++ a) at s ≡ written b at s ++ a
unfolding written
written_left b a at s h =
    rw (take-append-le at b a (omega arith), drop-append-le (at + length s) b a h) (sym (append_assoc (take at b ++ s) (drop (at + length s) b) a))

-- written into the second of them
pub written_right : (b a : List ℕ) (k : ℕ) (s : List ℕ) → written (b ++ a) (length b + k) s ≡ b ++ written a k s
unfolding written
written_right b a k s =
    rw (take-append-add b a k, add_assoc (length b) k (length s), drop-append-add b a (k + length s), append_assoc b (take k a) s)
    (append_assoc b (take k a ++ s) (drop (k + length s) a))

-- the front of a buffer that was written from index 0 on
pub written_front : (d s : List ℕ) (n : ℕ) → length s ≡ n → take n (written d 0 s) ≡ s
unfolding written
written_front d s n e = take_at s (drop (0 + length s) d) n e
