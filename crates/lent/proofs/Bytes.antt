-- Eight bytes and their number, as the code writes them out; the bytes of a list of numbers, place by place and as a loop writes them.
use mathlib.Core.Path.{◌≡◌, refl, sym, ap, ◌∙◌}
use mathlib.Core.List.{List, [], ◌∷◌, ◌++◌, append_assoc, append-nil}
use Prim.Native.Nat.{ℕ, zero, suc, ◌+◌, ◌*◌, ◌≤◌, ◌<◌}
use native.Mathlib.Nat.{zero-add}
use native.Mathlib.Numerals.{add-one}
use native.Mathlib.Omega.{arith}
use lib.ListN.{length, get_or, take, length-append, get_or-append}
use lib.Seq.{take-suc, length-take-le, get_or-append-add}
use Rattle.basics.specs.Numbers.{low_first, number_at}
use Rattle.basics.proofs.Numbers.{byte_at, byte_zero, low_at}
use Rattle.lent.specs.Written.{written}
use Rattle.lent.specs.Numbers.{bytes_of}
use Rattle.lent.proofs.Written.{written_append}

-- ---- one number

pub number_at_lem : (l : List ℕ) (at : ℕ)
    → get_or l at 0 + 256 * (get_or l (at + 1) 0 + 256 * (get_or l (at + 2) 0 + 256 * (get_or l (at + 3) 0 + 256 * (get_or l (at + 4) 0
    + 256 * (get_or l (at + 5) 0 + 256 * (get_or l (at + 6) 0 + 256 * (get_or l (at + 7) 0 + 256 * 0))))))) ≡ number_at at 8 l
number_at_lem l at =
    let e1 : at + 1 ≡ suc at = omega arith in
    let e2 : at + 2 ≡ suc (suc at) = omega arith in
    let e3 : at + 3 ≡ suc (suc (suc at)) = omega arith in
    let e4 : at + 4 ≡ suc (suc (suc (suc at))) = omega arith in
    let e5 : at + 5 ≡ suc (suc (suc (suc (suc at)))) = omega arith in
    let e6 : at + 6 ≡ suc (suc (suc (suc (suc (suc at))))) = omega arith in
    let e7 : at + 7 ≡ suc (suc (suc (suc (suc (suc (suc at)))))) = omega arith in
    rw (e1, e2, e3, e4, e5, e6, e7)

-- ---- a list of numbers

pub bytes_length : (numbers : List ℕ) → length (bytes_of numbers) ≡ 8 * length numbers
unfolding bytes_of
bytes_length [] = refl
bytes_length (x ∷ xs) = length-append (low_first 8 x) (bytes_of xs) ∙ ap (λ (n : ℕ). 8 + n) (bytes_length xs) ∙ omega arith

bytes_append : (xs ys : List ℕ) → bytes_of (xs ++ ys) ≡ bytes_of xs ++ bytes_of ys
unfolding bytes_of
bytes_append [] ys = refl
bytes_append (x ∷ xs) ys = ap (λ (l : List ℕ). low_first 8 x ++ l) (bytes_append xs ys) ∙ sym (append_assoc (low_first 8 x) (bytes_of xs) (bytes_of ys))

pub bytes_at : (numbers : List ℕ) (j k : ℕ) → k < 8 → get_or (bytes_of numbers) (8 * j + k) 0 ≡ byte_at k (get_or numbers j 0)
unfolding bytes_of
bytes_at [] j k h = sym (byte_zero k)
bytes_at (x ∷ xs) zero k h =
    ap (λ (i : ℕ). get_or (low_first 8 x ++ bytes_of xs) i 0) (zero-add k) ∙ get_or-append (low_first 8 x) (bytes_of xs) 0 k h ∙ low_at 8 k x h
bytes_at (x ∷ xs) (suc j) k h =
    let e : 8 * suc j + k ≡ 8 + (8 * j + k) = omega arith in
    ap (λ (i : ℕ). get_or (low_first 8 x ++ bytes_of xs) i 0) e ∙ get_or-append-add (low_first 8 x) (bytes_of xs) (8 * j + k) 0 ∙ bytes_at xs j k h

-- a loop: i numbers are written
pub numbers_start : (d numbers : List ℕ) → d ≡ written d 0 (bytes_of (take 0 numbers))
unfolding bytes_of written
numbers_start d numbers = refl

pub numbers_turn : (d numbers : List ℕ) (i : ℕ) → i < length numbers → 8 * length numbers ≤ length d
    → written (written d 0 (bytes_of (take i numbers))) (8 * i) (low_first 8 (get_or numbers i 0)) ≡ written d 0 (bytes_of (take (i + 1) numbers))
unfolding bytes_of
numbers_turn d numbers i h room =
    let s = bytes_of (take i numbers) in
    let x = low_first 8 (get_or numbers i 0) in
    let long : length s ≡ 8 * i = bytes_length (take i numbers) ∙ ap (λ (n : ℕ). 8 * n) (length-take-le i numbers (omega arith)) in
    ap (λ (n : ℕ). written (written d 0 s) n x) (sym (zero-add (length s) ∙ long))
    ∙ written_append d 0 s x (omega arith)
    ∙ ap (written d 0) (ap (λ (l : List ℕ). s ++ l) (sym (append-nil x)) ∙ sym (bytes_append (take i numbers) (get_or numbers i 0 ∷ []))
    ∙ ap bytes_of (sym (take-suc numbers i 0 h) ∙ ap (λ (n : ℕ). take n numbers) (sym (add-one i))))
