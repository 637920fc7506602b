-- Doubling in the field keeps sums, and keeps bytes bytes.
use mathlib.Core.Path.{◌≡◌, refl}
use Prim.Native.Nat.{ℕ, ◌<◌}
use lib.Bits.{bit_xor}
use Rattle.division.proofs.Doubling.{twice_xor, twice_lt}
use Rattle.field.specs.Field.{field_polynomial, double}

pub double_xor : (a b : ℕ) → a < 256 → b < 256 → double (bit_xor a b) ≡ bit_xor (double a) (double b)
unfolding double
double_xor a b ha hb = twice_xor 8 field_polynomial a b ha hb

pub double_lt : (a : ℕ) → a < 256 → double a < 256
unfolding double
double_lt a h = twice_lt 8 field_polynomial a refl h
