-- A record's mark as a number: its bits are read back, and a mark that is read is the mark of its record. And bytes that are all zero.
use mathlib.Core.Path.{◌≡◌, refl, ap₂}
use mathlib.Core.Bool.{Bool, true, false, cond}
use mathlib.Core.List.{List, [], ◌∷◌}
use Prim.Native.Nat.{ℕ, zero, suc, ◌+◌, ◌*◌, ◌/◌, ◌%◌, ◌<◌}
use native.Mathlib.Nat.{mod-lt, mod-eq_of_lt, div-div-eq-div-mul}
use native.Mathlib.Omega.{arith}
use lib.ListN.{length}
use lib.Dec.{lit<, eqb}
use borrow.Author.Tests.{eqb-true}
use Rattle.basics.specs.Lists.{zeros}
use Rattle.basics.proofs.Tests.{left_true, right_true}
use Rattle.basics.proofs.Xor.{bit_cases}
use Rattle.link.specs.Parsing.{mark_at}
use Rattle.marks.specs.Mark.{is_first, is_last, length_in}
use Rattle.packing.specs.Records.{all_zero}

-- the mark of a record, by its parts
abbrev pub mark_of : Bool → Bool → ℕ → ℕ
mark_of first last n = cond first 32768 0 + cond last 16384 0 + n

bit_set : (b : Bool) → eqb (cond b 1 0) 1 ≡ b
bit_set true = refl
bit_set false = refl

module _ (n : ℕ) (h : n < 2048) where
  pub mark_fits : (first last : Bool) → mark_of first last n < 65536
  mark_fits true true = omega arith
  mark_fits true false = omega arith
  mark_fits false true = omega arith
  mark_fits false false = omega arith

  pub mark_length : (first last : Bool) → length_in (mark_of first last n) ≡ n
  mark_length true true = omega arith
  mark_length true false = omega arith
  mark_length false true = omega arith
  mark_length false false = omega arith

  pub mark_spare : (first last : Bool) → mark_of first last n / 2048 % 8 ≡ 0
  mark_spare true true = omega arith
  mark_spare true false = omega arith
  mark_spare false true = omega arith
  mark_spare false false = omega arith

  first_bit_lem : (first last : Bool) → mark_of first last n / 32768 % 2 ≡ cond first 1 0
  first_bit_lem true true = omega arith
  first_bit_lem true false = omega arith
  first_bit_lem false true = omega arith
  first_bit_lem false false = omega arith

  last_bit_lem : (first last : Bool) → mark_of first last n / 16384 % 2 ≡ cond last 1 0
  last_bit_lem true true = omega arith
  last_bit_lem true false = omega arith
  last_bit_lem false true = omega arith
  last_bit_lem false false = omega arith

  pub mark_first : (first last : Bool) → is_first (mark_of first last n) ≡ first
  mark_first first last = rw (first_bit_lem first last) (bit_set first)

  pub mark_last : (first last : Bool) → is_last (mark_of first last n) ≡ last
  mark_last first last = rw (last_bit_lem first last) (bit_set last)

-- what a bit adds to the number
bit_value : (b v : ℕ) → b < 2 → cond (eqb b 1) v 0 ≡ b * v
bit_value b v h = bit_cases (λ b. cond (eqb b 1) v 0 ≡ b * v) (omega arith) (omega arith) b h

-- two bytes with bits 13-11 zero are the mark of the record that they say
pub mark_is : (mark : ℕ) → mark < 65536 → mark / 2048 % 8 ≡ 0 → mark_of (is_first mark) (is_last mark) (length_in mark) ≡ mark
mark_is mark h e =
    let quarter : mark / 2048 / 8 ≡ mark / 16384 = div-div-eq-div-mul mark 2048 8 in
    let half : mark / 16384 / 2 ≡ mark / 32768 = div-div-eq-div-mul mark 16384 2 in
    let top : mark / 32768 % 2 ≡ mark / 32768 = mod-eq_of_lt (omega arith) in
    let whole : mark ≡ mark / 16384 * 16384 + mark % 2048 = omega (arith, quarter) in
    rw (bit_value (mark / 32768 % 2) 32768 (mod-lt (mark / 32768) (lit< tt)), bit_value (mark / 16384 % 2) 16384 (mod-lt (mark / 16384) (lit< tt)), top)
    (omega (arith, half, whole))

-- ---- zeros

pub zeros_all : (n : ℕ) → all_zero (zeros n) ≡ true
zeros_all zero = refl
zeros_all (suc n) = zeros_all n

pub all_zeros : (l : List ℕ) → all_zero l ≡ true → l ≡ zeros (length l)
all_zeros [] e = refl
all_zeros (x ∷ l) e =
    ap₂ (λ (y : ℕ) (k : List ℕ). y ∷ k) (eqb-true x 0 (left_true (eqb x 0) (all_zero l) e)) (all_zeros l (right_true (eqb x 0) (all_zero l) e))

pub zeros_mark : (n : ℕ) → mark_at (zeros n) ≡ 0
zeros_mark zero = refl
zeros_mark (suc zero) = refl
zeros_mark (suc (suc n)) = refl
