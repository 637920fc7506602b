-- Polynomials and their long division. A polynomial is the list of its coefficients, the highest power first, over any field whose sum is modulo 2
-- (`bit_xor`) and whose product is `times`: the bytes of the Reed-Solomon code (2.6.3.6.3), the bits of the check sums (2.6.3.6.1, Table 2-15).
use Rattle.std.specs.Prelude.{List, [], ◌∷◌, ◌++◌, ℕ, zero, suc, length}
use Rattle.std.specs.Int.Bits.{bit_xor}
use Rattle.basics.specs.Lists.{zeros}

-- the sum, coefficient by coefficient from the front; what the longer one has more is kept
unfoldable pub plus : List ℕ → List ℕ → List ℕ
plus [] ys = ys
plus (x ∷ xs) [] = x ∷ xs
plus (x ∷ xs) (y ∷ ys) = bit_xor x y ∷ plus xs ys

module _ (times : ℕ → ℕ → ℕ) where
  -- c times a polynomial
  unfoldable pub scale : ℕ → List ℕ → List ℕ
  scale c [] = []
  scale c (x ∷ xs) = times c x ∷ scale c xs

  -- the product of two polynomials
  unfoldable pub product : List ℕ → List ℕ → List ℕ
  product [] q = []
  product (a ∷ p) q = plus (scale a q) (0 ∷ product p q)

  -- Long division by a polynomial with leading coefficient 1, whose other coefficients are g: n times the leading coefficient c is taken off,
  -- with c times the divisor. What is left after n steps.
  unfoldable pub remainder : List ℕ → ℕ → List ℕ → List ℕ
  remainder g zero xs = xs
  remainder g (suc n) [] = []
  remainder g (suc n) (c ∷ xs) = remainder g n (plus (scale c g) xs)

  -- the remainder of a message m times x^L by the divisor, L its degree
  unfoldable pub check : List ℕ → List ℕ → List ℕ
  check g m = remainder g (length m) (m ++ zeros (length g))
