-- Division is right: the dividend is the quotient times the divisor, with the remainder added at its end.
use mathlib.Core.Path.{◌≡◌, refl, sym, ap, ap₂, ◌∙◌}
use mathlib.Core.List.{List, [], ◌∷◌, ◌++◌}
use Prim.Native.Nat.{ℕ, zero, suc, ◌+◌, ◌≤◌}
use native.Mathlib.Nat.{suc_inj, suc-ne-zero, suc-add, le_of_suc-le-suc, not-suc-le-zero}
use native.Mathlib.Omega.{arith}
use lib.Bits.{bit_xor, xor_zero_r}
use lib.ListN.{length}
use Rattle.basics.proofs.Xor.{xor_cancel}
use Rattle.basics.specs.Lists.{zeros}
use Rattle.division.specs.Division.{plus, scale, product, remainder}
use Rattle.division.proofs.Register.{plus_assoc, scale_length}

-- a list added twice is gone
plus_cancel : (xs ys : List ℕ) → length xs ≤ length ys → plus xs (plus xs ys) ≡ ys
unfolding plus
plus_cancel [] ys h = refl
plus_cancel (x ∷ xs) [] h = absurd (not-suc-le-zero h)
plus_cancel (x ∷ xs) (y ∷ ys) h = ap₂ (λ (a : ℕ) (l : List ℕ). a ∷ l) (xor_cancel x y) (plus_cancel xs ys (le_of_suc-le-suc h))

pub plus_length_le : (xs ys : List ℕ) → length xs ≤ length ys → length (plus xs ys) ≡ length ys
unfolding plus
plus_length_le [] ys h = refl
plus_length_le (x ∷ xs) [] h = absurd (not-suc-le-zero h)
plus_length_le (x ∷ xs) (y ∷ ys) h = ap suc (plus_length_le xs ys (le_of_suc-le-suc h))

-- Good holds of the field's elements: sums and products are good, and 1 is the unit
module _ (times : ℕ → ℕ → ℕ) (Good : ℕ → Type 0) (sums : (a b : ℕ) → Good a → Good b → Good (bit_xor a b))
    (products : (a b : ℕ) → Good a → Good b → Good (times a b)) (unit : (a : ℕ) → Good a → times a 1 ≡ a) where
  abbrev pub All : List ℕ → Type 0
  All [] = Unit {0}
  All (x ∷ xs) = Good x × All xs

  plus_all : (xs ys : List ℕ) → All xs → All ys → All (plus xs ys)
  unfolding plus
  plus_all [] ys h k = k
  plus_all (x ∷ xs) [] h k = h
  plus_all (x ∷ xs) (y ∷ ys) h k = (sums x y h.0 k.0, plus_all xs ys h.1 k.1)

  scale_all : (c : ℕ) (xs : List ℕ) → Good c → All xs → All (scale times c xs)
  unfolding scale
  scale_all c [] hc h = tt
  scale_all c (x ∷ xs) hc h = (products c x hc h.0, scale_all c xs hc h.1)

  -- the coefficients that are taken off
  unfoldable pub quotient : List ℕ → ℕ → List ℕ → List ℕ
  quotient g zero xs = []
  quotient g (suc n) [] = []
  quotient g (suc n) (c ∷ xs) = c ∷ quotient g n (plus (scale times c g) xs)

  pub identity : (g : List ℕ) (n : ℕ) (xs : List ℕ) → All g → All xs → length xs ≡ n + length g
      → plus (product times (quotient g n xs) (1 ∷ g)) (zeros n ++ remainder times g n xs) ≡ xs
  unfolding quotient product remainder plus scale
  identity g zero xs hg hx e = refl
  identity g (suc n) [] hg hx e = absurd (suc-ne-zero (n + length g) (sym (e ∙ suc-add n (length g))))
  identity g (suc n) (c ∷ xs) hg hx e =
      let s = scale times c g in
      let ys = plus s xs in
      let le : length s ≤ length xs = omega (arith, scale_length times c g, suc_inj (e ∙ suc-add n (length g))) in
      let p = product times (quotient g n ys) (1 ∷ g) in
      let r = zeros n ++ remainder times g n ys in
      let ih : plus p r ≡ ys =
      identity g n ys hg (plus_all s xs (scale_all c g hx.0 hg) hx.1) (plus_length_le s xs le ∙ suc_inj (e ∙ suc-add n (length g))) in
      ap₂ (λ (a : ℕ) (l : List ℕ). a ∷ l)
      (ap (λ (a : ℕ). bit_xor (bit_xor a 0) 0) (unit c hx.0) ∙ xor_zero_r (bit_xor c 0) ∙ xor_zero_r c)
      (plus_assoc s p r ∙ ap (plus s) ih ∙ plus_cancel s xs le)
