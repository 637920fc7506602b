-- The Reed-Solomon code (2.6.3.6.3; 01, "The frame on the wire"): words of 255 bytes, 239 of data and then 16 of parity, the first byte the highest power.
use Rattle.std.specs.Prelude.{Bool, ◌&&◌, ℕ, zero, suc, ◌-◌, ◌*◌, eqb, length}
use mathlib.Core.List.{List, [], ◌∷◌, ◌++◌, tail}
use Rattle.basics.specs.Lists.{zeros, same}
use Rattle.field.specs.Field.{power, times}
use Rattle.division.specs.Division.{product, remainder, check}

-- the product of n factors x - 2^(11 j), j from i on; a difference is a sum here
unfoldable pub factors : ℕ → ℕ → List ℕ
factors zero i = 1 ∷ []
factors (suc n) i = product times (1 ∷ power (11 * i) ∷ []) (factors n (suc i))

-- the generator: its 16 roots are 2 to the power 11 j, j from 120 to 135
unfoldable pub generator : List ℕ
generator = factors 16 120

-- the 16 parity bytes of data of any length: the remainder of the data times x^16 by the generator, whose leading coefficient is 1
unfoldable pub parity : List ℕ → List ℕ
parity message = check times (tail generator) message

-- what division by the generator leaves of a word of 255 bytes
abbrev pub remainder_of : List ℕ → List ℕ
remainder_of word = remainder times (tail generator) 239 word

-- whether a word is a codeword: 255 bytes that the generator divides
unfoldable pub is_codeword : List ℕ → Bool
is_codeword word = eqb (length word) 255 && same (remainder_of word) (zeros 16)

-- a shorter word with the zeros in front that are not sent, 223 of them for the header (2.6.3.6.2)
unfoldable pub lengthened : List ℕ → List ℕ
lengthened word = zeros (255 - length word) ++ word
