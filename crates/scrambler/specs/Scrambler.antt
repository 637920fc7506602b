-- The scrambler (2.6.3.6.4 to 2.6.3.6.7; 01, "The frame on the wire"): bits s(0), s(1), .. by a recurrence over the last 25, added modulo 2 to the bytes, the
-- top bit of each byte first. The taps of the recurrence are a setting, a number whose binary digit i is tap i.
use Rattle.std.specs.Prelude.{Bool, ◌&&◌, List, [], ◌∷◌, ℕ, zero, suc, ◌+◌, ◌*◌, ◌/◌, ◌%◌, ◌^◌, eqb}
use Rattle.std.specs.Int.Bits.{bit_xor}
use Rattle.basics.specs.Lists.{entries}
use Rattle.basics.specs.Numbers.{digit, number, fits_bits}

-- the setting holds 25 taps, and tap 0 is set (01, refusal 1)
unfoldable pub taps_allowed : ℕ → Bool
taps_allowed taps = fits_bits 25 taps && eqb (digit 0 taps) 1

-- f 0 + f 1 + .. + f (n - 1)
unfoldable pub sum_below : ℕ → (ℕ → ℕ) → ℕ
sum_below zero f = 0
sum_below (suc n) f = f 0 + sum_below n (λ i. f (suc i))

-- The 25 stages hold the bits s(k) to s(k + 24), s(k + i) as digit i. The new bit s(k + 25) is 1 exactly when an odd number of the bits s(k + i), over all
-- taps i that are set, are 1.
unfoldable pub new_bit : ℕ → ℕ → ℕ
new_bit taps stages = sum_below 25 (λ i. digit i taps * digit i stages) % 2

-- the stages one bit further: s(k) leaves, and s(k + 25) comes in
unfoldable pub next : ℕ → ℕ → ℕ
next taps stages = stages / 2 + new_bit taps stages * 2 ^ 24

-- the stages n bits further
unfoldable pub after : ℕ → ℕ → ℕ → ℕ
after taps zero stages = stages
after taps (suc n) stages = after taps n (next taps stages)

-- s(0) to s(2) are 1, s(3) to s(24) are 0 (Table 2-17: 0x0000007)
abbrev pub first_stages : ℕ
first_stages = 7

-- the bit s(k)
unfoldable pub bit : ℕ → ℕ → ℕ
bit taps k = digit 0 (after taps k first_stages)

-- byte k of the key: the bits s(8 k) to s(8 k + 7), the first at the top
unfoldable pub key_byte : ℕ → ℕ → ℕ
key_byte taps k = number (entries (bit taps) (8 * k) 8)

-- the bytes with those of the key from byte k on added
unfoldable pub with_key : ℕ → ℕ → List ℕ → List ℕ
with_key taps k [] = []
with_key taps k (byte ∷ bytes) = bit_xor byte (key_byte taps k) ∷ with_key taps (suc k) bytes

-- the bytes with the bits from s(0) on added: each frame begins anew
unfoldable pub scrambled : ℕ → List ℕ → List ℕ
scrambled taps bytes = with_key taps 0 bytes
