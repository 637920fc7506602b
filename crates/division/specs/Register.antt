-- What the codes do: long division by a register of as many places as the divisor has coefficients below its leading one. Contracts of private functions
-- cite it; `check_feed` in proofs/Register.antt shows that it comes to `check`, so whoever reads `Division` need not believe anything here.
use mathlib.Core.List.{List, [], ◌∷◌, ◌++◌}
use Rattle.std.specs.Prelude.{ℕ}
use Rattle.std.specs.Int.Bits.{bit_xor}
use Rattle.division.specs.Division.{plus, scale}

module _ (times : ℕ → ℕ → ℕ) where
  -- a coefficient goes in: the register moves up by a place, and the coefficient that leaves it, with the new one added, takes off the divisor
  unfoldable pub step : List ℕ → List ℕ → ℕ → List ℕ
  step divisor [] coefficient = []
  step divisor (leaving ∷ register) coefficient = plus (scale times (bit_xor leaving coefficient) divisor) (register ++ 0 ∷ [])

  -- the coefficients of a message go in one after the other
  unfoldable pub feed : List ℕ → List ℕ → List ℕ → List ℕ
  unfolding step
  feed divisor register [] = register
  feed divisor register (coefficient ∷ message) = feed divisor (step divisor register coefficient) message
