-- A word as a polynomial, and its values at powers of 2: what the laws of the code and the search of crate `nearest` speak of. Contracts of functions below
-- the calls cite it; whoever reads `Code` need not believe anything here.
use Rattle.std.specs.Prelude.{List, [], ◌∷◌, ℕ, ◌*◌, length}
use Rattle.std.specs.Int.Bits.{bit_xor}
use Rattle.field.specs.Field.{power, times}

-- the number of the place with n places behind it
abbrev pub locator : ℕ → ℕ
locator n = power (11 * n)

-- the value at x of a polynomial whose coefficients before those of the list have the value a
unfoldable pub value : ℕ → ℕ → List ℕ → ℕ
value x a [] = a
value x a (c ∷ p) = value x (bit_xor (times a x) c) p

-- the sum of c times 2^(u n), over the coefficients c with n coefficients behind
unfoldable pub terms : ℕ → List ℕ → ℕ
terms u [] = 0
terms u (c ∷ p) = bit_xor (times c (power (u * length p))) (terms u p)
