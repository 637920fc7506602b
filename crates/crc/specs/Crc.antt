-- The two check sums of a frame (2.6.3.6.1; 01, "The frame on the wire"). Each is the remainder of the message times x^n by a polynomial of degree n over
-- bits: it starts from zero, takes the bytes in order, the top bit of each first, and adds nothing at the end.
use Rattle.std.specs.Prelude.{List, [], ◌∷◌, ◌++◌, ℕ, ◌*◌}
use Rattle.basics.specs.Numbers.{bits, number}
use Rattle.division.specs.Division.{check}

-- the bits of a message's bytes, in the order in which they are taken
unfoldable pub message_bits : List ℕ → List ℕ
message_bits [] = []
message_bits (byte ∷ bytes) = bits 8 byte ++ message_bits bytes

-- The check sum of n bits by a polynomial of degree n. A polynomial is a number, whose binary digit k is the coefficient of x^k; the product of two bits
-- is that of numbers.
unfoldable pub crc : ℕ → ℕ → List ℕ → ℕ
crc n polynomial message = number (check (λ a b. a * b) (bits n polynomial) (message_bits message))

-- Table 2-15, frame header: x^16 + x^12 + x^5 + 1
abbrev pub crc16_polynomial : ℕ
crc16_polynomial = 0x11021

-- Table 2-15, frame payload: x^32 + x^26 + x^23 + x^22 + x^16 + x^12 + x^11 + x^10 + x^8 + x^7 + x^5 + x^4 + x^2 + x + 1
abbrev pub crc32_polynomial : ℕ
crc32_polynomial = 0x104C11DB7

-- the CRC-16, which ends a header
unfoldable pub crc_16 : List ℕ → ℕ
crc_16 message = crc 16 crc16_polynomial message

-- the CRC-32, which follows the 1,908 data bytes of a payload
unfoldable pub crc_32 : List ℕ → ℕ
crc_32 message = crc 32 crc32_polynomial message
