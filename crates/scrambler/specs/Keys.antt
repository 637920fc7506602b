-- What the code does: the scrambler's bits as they leave the stages, and in numbers of 1, 2, 4 and 8 bytes, each kind by one recurrence. The contracts of the
-- private functions cite these words; `proofs/` shows that they come to `scrambled`, so whoever reads `scramble` need not believe anything here.
use Rattle.std.specs.Prelude.{◌≡◌, List, [], ◌∷◌, ℕ, zero, suc, ◌+◌, ◌*◌, ◌/◌, ◌%◌, ◌^◌, ◌<◌, length, get_or}
use Rattle.std.specs.Int.Bits.{bit_xor}
use Rattle.basics.specs.Numbers.{digit}
use Rattle.scrambler.specs.Scrambler.{next, after, first_stages, key_byte}

-- the next n bits that leave the stages, as a number, the first of them the highest
unfoldable pub key : ℕ → ℕ → ℕ → ℕ
key taps zero stages = 0
key taps (suc n) stages = digit 0 stages * 2 ^ n + key taps n (next taps stages)

-- the bytes with the bits from these stages on added
unfoldable pub scrambled_from : ℕ → ℕ → List ℕ → List ℕ
scrambled_from taps stages [] = []
scrambled_from taps stages (byte ∷ bytes) = bit_xor byte (key taps 8 stages) ∷ scrambled_from taps (after taps 8 stages) bytes

-- n bytes of the key from byte i on, as a number, the first the lowest
unfoldable pub key_number : ℕ → ℕ → ℕ → ℕ
key_number taps zero i = 0
key_number taps (suc n) i = key_number taps n (suc i) * 2 ^ 8 + key_byte taps i

-- a list with i in front where the bit is 1
abbrev pub with_place : ℕ → ℕ → List ℕ → List ℕ
with_place zero i l = l
with_place (suc bit) i l = i ∷ l

-- the places of the taps that are set, among n of them from place i on
unfoldable pub places_from : ℕ → ℕ → ℕ → List ℕ
places_from zero i taps = []
places_from (suc n) i taps = with_place (taps % 2) i (places_from n (suc i) (taps / 2))

-- each number of a list is below n
pub record AllBelow (n : ℕ) (l : List ℕ) : Type 0 where
  pub at : (m : ℕ) → m < length l → get_or l m 0 < n

-- the sum of f at the places
unfoldable pub sum_at : List ℕ → (ℕ → ℕ) → ℕ
sum_at [] f = 0
sum_at (p ∷ places) f = bit_xor (f p) (sum_at places f)

-- each number is the sum of those at the places among the 25 before it, where only every n-th number counts
abbrev pub FollowsBy : ℕ → List ℕ → (ℕ → ℕ) → Type 0
FollowsBy n places v = (k : ℕ) → v (k + 25 * n) ≡ sum_at places (λ i. v (k + n * i))

-- the sums at the places of every n-th number of a list, from each of the first n on
pub record Sums (n : ℕ) (places numbers sums : List ℕ) : Type 0 where
  pub at : (i : ℕ) → i < n → get_or sums i 0 ≡ sum_at places (λ p. get_or numbers (i + n * p) 0)

-- the first n numbers of a list are v 0, v 1, ..
pub record Holds (v : ℕ → ℕ) (n : ℕ) (l : List ℕ) : Type 0 where
  pub at : (i : ℕ) → i < n → get_or l i 0 ≡ v i

-- whatever follows the places, n by n, and was there for 25 n numbers is there for 50 n
pub record Extends (n : ℕ) (places before after : List ℕ) : Type 0 where
  pub more : (v : ℕ → ℕ) → FollowsBy n places v → Holds v (25 * n) before → Holds v (50 * n) after

-- two neighbours in one, the first the lower
abbrev pub pair_of : ℕ → List ℕ → ℕ → ℕ
pair_of unit l i = get_or l (1 + 2 * i) 0 * unit + get_or l (2 * i) 0

-- 25 pairs
pub record Paired (unit : ℕ) (before after : List ℕ) : Type 0 where
  pub pairs : Holds (pair_of unit before) 25 after

-- the numbers from the 50th on come to the front
pub record Moved (before after : List ℕ) : Type 0 where
  pub later : Holds (λ i. get_or before (50 + i) 0) 50 after

-- 50 words of a key, from whichever byte on, are added to bytes
pub record Added (words before sum : List ℕ) : Type 0 where
  pub scrambles : (taps at : ℕ) → Holds (λ k. key_number taps 8 (at + 8 * k)) 50 words
      → sum ≡ scrambled_from taps (after taps (8 * at) first_stages) before
