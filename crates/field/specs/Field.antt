-- The field of 256 elements (2.6.3.6.3; 01, "The frame on the wire"). An element is a byte: bit k is the coefficient of x^k, sums are modulo 2 (`bit_xor`),
-- and products are modulo the field polynomial x^8 + x^7 + x^2 + x + 1.
use Rattle.std.specs.Prelude.{ℕ, zero, suc, ◌*◌, ◌/◌, ◌%◌}
use Rattle.std.specs.Int.Bits.{bit_xor}
use Rattle.division.specs.Doubling.{twice}

-- x^8 + x^7 + x^2 + x + 1
abbrev pub field_polynomial : ℕ
field_polynomial = 0x187

-- x times a byte, in the field
unfoldable pub double : ℕ → ℕ
double a = twice 8 field_polynomial a

-- the k-th power of 2, which is x
unfoldable pub power : ℕ → ℕ
power zero = 1
power (suc k) = double (power k)

-- the sum of b doubled k times, over the bits k of a that are 1, k from 0 to n - 1
unfoldable pub sum_over : ℕ → ℕ → ℕ → ℕ
sum_over zero a b = 0
sum_over (suc n) a b = bit_xor (a % 2 * b) (sum_over n (a / 2) (double b))

-- the product of two bytes
unfoldable pub times : ℕ → ℕ → ℕ
times a b = sum_over 8 a b
