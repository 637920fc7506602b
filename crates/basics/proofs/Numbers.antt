-- A number is its bytes, and bytes are their number: once, over the count of bytes. And the bytes of a number one by one, those of a sum too.
use mathlib.Core.Path.{◌≡◌, refl, sym, ap, ap₂, ◌∙◌}
use mathlib.Core.List.{List, [], ◌∷◌, ◌++◌}
use Prim.Native.Nat.{ℕ, zero, suc, ◌+◌, ◌*◌, ◌/◌, ◌%◌, ◌^◌, ◌≤◌, ◌<◌}
use native.Mathlib.Nat.{not-suc-le-zero, le_of_suc-le-suc, mod-lt}
use native.Mathlib.Omega.{arith}
use lib.Dec.{lit<}
use lib.Bits.{bit_xor, xor_shr, xor_mod}
use lib.ListN.{length, get_or, drop}
use Rattle.basics.specs.Lists.{Bytes, entries}
use Rattle.basics.specs.Numbers.{low_first, high_first, number_at}
use Rattle.basics.proofs.Lists.{bytes_append, byte, byte_at_lem, entries_at, entries_then}

number_behind : (i n b : ℕ) (l : List ℕ) → number_at (suc i) n (b ∷ l) ≡ number_at i n l
number_behind i zero b l = refl
number_behind i (suc n) b l = ap (λ x. get_or l i 0 + 256 * x) (number_behind (suc i) n b l)

-- a number that fits in n bytes is read back from them
pub number_of_bytes : (n x : ℕ) → x < 256 ^ n → number_at 0 n (low_first n x) ≡ x
number_of_bytes zero x h = omega arith
number_of_bytes (suc n) x h =
    let low : x / 256 < 256 ^ n = omega arith in
    ap (λ y. x % 256 + 256 * y) (number_behind 0 n (x % 256) (low_first n (x / 256)) ∙ number_of_bytes n (x / 256) low) ∙ omega arith

-- the number that n bytes hold has these bytes
pub bytes_of_number : (l : List ℕ) → Bytes l → (i n : ℕ) → low_first n (number_at i n l) ≡ entries (byte l) i n
unfolding entries
bytes_of_number l h i zero = refl
bytes_of_number l h i (suc n) =
    let b = byte_at_lem l h i in
    let rest = number_at (suc i) n l in
    let low : (get_or l i 0 + 256 * rest) % 256 ≡ get_or l i 0 = omega arith in
    let high : (get_or l i 0 + 256 * rest) / 256 ≡ rest = omega arith in
    ap₂ (λ (x : ℕ) (xs : List ℕ). x ∷ xs) low (ap (low_first n) high ∙ bytes_of_number l h (suc i) n)

-- the bytes of the number that stands there, and what stands behind them
pub number_then : (l : List ℕ) → Bytes l → (i n : ℕ) → i + n ≤ length l → low_first n (number_at i n l) ++ drop (i + n) l ≡ drop i l
number_then l b i n h = ap (λ (t : List ℕ). t ++ drop (i + n) l) (bytes_of_number l b i n) ∙ entries_then l i n h

pub number_lt : (l : List ℕ) → Bytes l → (i n : ℕ) → number_at i n l < 256 ^ n
number_lt l h i zero = omega arith
number_lt l h i (suc n) =
    let b = byte_at_lem l h i in
    let rest = number_lt l h (suc i) n in
    omega arith

-- each of the n is a byte, in both orders
pub low_first_bytes : (n x : ℕ) → Bytes (low_first n x)
low_first_bytes zero x = tt
low_first_bytes (suc n) x = (mod-lt x (lit< tt), low_first_bytes n (x / 256))

pub high_first_bytes : (n x : ℕ) → Bytes (high_first n x)
high_first_bytes zero x = tt
high_first_bytes (suc n) x = bytes_append (high_first n (x / 256)) ((x % 256) ∷ []) (high_first_bytes n (x / 256)) (mod-lt x (lit< tt), tt)

-- ---- byte k of a number, the lowest first

abbrev pub byte_at : ℕ → ℕ → ℕ
byte_at zero x = x % 256
byte_at (suc k) x = byte_at k (x / 256)

pub byte_lt : (k x : ℕ) → byte_at k x < 256
byte_lt zero x = mod-lt x (lit< tt)
byte_lt (suc k) x = byte_lt k (x / 256)

pub byte_zero : (k : ℕ) → byte_at k 0 ≡ 0
byte_zero zero = refl
byte_zero (suc k) = byte_zero k

pub byte_xor : (k a b : ℕ) → byte_at k (bit_xor a b) ≡ bit_xor (byte_at k a) (byte_at k b)
byte_xor zero a b = xor_mod a b 8
byte_xor (suc k) a b = ap (byte_at k) (xor_shr a b 8) ∙ byte_xor k (a / 256) (b / 256)

pub low_at : (n k x : ℕ) → k < n → get_or (low_first n x) k 0 ≡ byte_at k x
low_at zero k x h = absurd (not-suc-le-zero h)
low_at (suc n) zero x h = refl
low_at (suc n) (suc k) x h = low_at n k (x / 256) (le_of_suc-le-suc h)

pub number_byte : (l : List ℕ) → Bytes l → (at n k : ℕ) → k < n → byte_at k (number_at at n l) ≡ get_or l (at + k) 0
number_byte l b at n k h =
    sym (low_at n k (number_at at n l) h) ∙ ap (λ (t : List ℕ). get_or t k 0) (bytes_of_number l b at n) ∙ entries_at (byte l) at n k h
