-- What the code does: long division over bits by a register that is a number of n bits, a byte at a time; and what eight bytes add to a check sum.
-- The contracts of the private functions cite these words; `proofs/` shows that they come to `crc`, so whoever reads `crc_16` and `crc_32` need not believe
-- anything here.
use Rattle.std.specs.Prelude.{List, [], ◌∷◌, ℕ, zero, suc, ◌+◌, ◌*◌, ◌-◌, ◌^◌}
use Rattle.std.specs.Int.Bits.{bit_xor}
use Rattle.basics.specs.Numbers.{bits, low_first}
use Rattle.division.specs.Doubling.{twice}
use Rattle.crc.specs.Crc.{crc32_polynomial, crc_32}

-- a bit is added at the top of the register, and the whole is doubled modulo the polynomial
unfoldable pub bit_step : ℕ → ℕ → ℕ → ℕ → ℕ
bit_step n polynomial register bit = twice n polynomial (bit_xor register (bit * 2 ^ (n - 1)))

-- bits go in one after the other
unfoldable pub bit_steps : ℕ → ℕ → ℕ → List ℕ → ℕ
bit_steps n polynomial register [] = register
bit_steps n polynomial register (b ∷ bs) = bit_steps n polynomial (bit_step n polynomial register b) bs

-- a byte goes in, its top bit first
unfoldable pub byte_step : ℕ → ℕ → ℕ → ℕ → ℕ
byte_step n polynomial register byte = bit_steps n polynomial register (bits 8 byte)

-- a register that is doubled k times modulo the polynomial
unfoldable pub doubled : ℕ → ℕ → ℕ → ℕ → ℕ
doubled n polynomial zero register = register
doubled n polynomial (suc k) register = doubled n polynomial k (twice n polynomial register)

-- a register of the CRC-32 times x^j
abbrev pub raised : ℕ → ℕ → ℕ
raised j register = doubled 32 crc32_polynomial j register

-- the CRC-32 of a message of n bytes, all 0 but the eight of this number, from index at on
abbrev pub number_sum : ℕ → ℕ → ℕ → ℕ
number_sum n at number = raised (8 * (n - (at + 8))) (crc_32 (low_first 8 number))
