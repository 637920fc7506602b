-- Numbers in bits and in bytes, as a header's fields, the check sums and the marks hold them (Table 2-10).
use Rattle.std.specs.Prelude.{Bool, List, [], ◌∷◌, ◌++◌, ℕ, zero, suc, ◌+◌, ◌*◌, ◌/◌, ◌%◌, ◌^◌, ltb, length, get_or}

-- binary digit i of a number, from the lowest, which is digit 0
abbrev pub digit : ℕ → ℕ → ℕ
digit i x = x / 2 ^ i % 2

-- the n low binary digits of a number, the highest first
unfoldable pub bits : ℕ → ℕ → List ℕ
bits zero x = []
bits (suc n) x = digit n x ∷ bits n x

-- the number with these binary digits, the highest first
unfoldable pub number : List ℕ → ℕ
number [] = 0
number (b ∷ bs) = b * 2 ^ length bs + number bs

-- x is above y
abbrev pub above : ℕ → ℕ → Bool
above x y = ltb y x

-- the number fits in so many bits
abbrev pub fits_bits : ℕ → ℕ → Bool
fits_bits bits x = ltb x (2 ^ bits)

-- the n low bytes of a number, low byte first; and high byte first
abbrev pub low_first : ℕ → ℕ → List ℕ
low_first zero x = []
low_first (suc n) x = (x % 256) ∷ low_first n (x / 256)

abbrev pub high_first : ℕ → ℕ → List ℕ
high_first zero x = []
high_first (suc n) x = high_first n (x / 256) ++ (x % 256) ∷ []

-- the number that the n bytes from index i on hold, low byte first
abbrev pub number_at : ℕ → ℕ → List ℕ → ℕ
number_at i zero bytes = 0
number_at i (suc n) bytes = get_or bytes i 0 + 256 * number_at (suc i) n bytes
