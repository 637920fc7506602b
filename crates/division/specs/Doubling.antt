-- Polynomials over bits that stand in a number, bit k being the coefficient of x^k: the elements of the field (2.6.3.6.3) and the registers of the check sums
-- (2.6.3.6.1, Table 2-15).
use Rattle.std.specs.Prelude.{ℕ, ◌*◌, ◌/◌, ◌^◌}
use Rattle.std.specs.Int.Bits.{bit_xor}

-- x times a, modulo a polynomial p of degree n: the number a doubled, less p where that has the bit 2^n
unfoldable pub twice : ℕ → ℕ → ℕ → ℕ
twice n p a = bit_xor (a * 2) (a * 2 / 2 ^ n * p)
