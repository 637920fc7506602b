-- The bits are those of the paper's recurrence, and the first 25 are the same for all taps; byte k of what is scrambled has bits 8 k to 8 k + 7 added.
use mathlib.Core.Path.{◌≡◌, refl, sym, ap, ap₂, ◌∙◌}
use mathlib.Core.Bool.{Bool, cond}
use mathlib.Core.List.{List, [], ◌∷◌}
use Prim.Native.Nat.{ℕ, zero, suc, ◌+◌, ◌*◌, ◌%◌, ◌^◌, ◌≤◌, ◌<◌}
use native.Mathlib.Nat.{not-suc-le-zero, le_of_suc-le-suc, add-zero, zero-add, add-suc, suc-add}
use native.Mathlib.Numerals.{add-one}
use native.Mathlib.Omega.{arith}
use lib.Dec.{eqb, ltb, eqb→eq, lit<, lit≤}
use lib.Bits.{bit_xor}
use lib.ListN.{length, get_or}
use Rattle.basics.specs.Lists.{zeros}
use Rattle.basics.proofs.Tests.{below}
use Rattle.basics.specs.Numbers.{digit}
use Rattle.scrambler.specs.Scrambler.{sum_below, new_bit, next, after, first_stages, bit, key_byte, with_key, scrambled}
use Rattle.scrambler.specs.Keys.{key, scrambled_from}
use Rattle.scrambler.proofs.Stages.{sum_ext, next_lt, after_lt, after_add, next_top, stage}
use Rattle.scrambler.proofs.KeyBytes.{scrambled_stages}

-- the bit that comes out after 25 steps
after_25 : (taps stages : ℕ) → stages < 2 ^ 25 → digit 0 (after taps 25 stages) ≡ new_bit taps stages
unfolding after
after_25 taps stages h = stage taps 24 (next taps stages) (lit< tt) (next_lt taps stages h) ∙ next_top taps stages h

-- s(k + 25) is 1 exactly when an odd number of the bits s(k + i), over the taps i that are set, are 1
pub recurrence : (taps k : ℕ) → bit taps (k + 25) ≡ sum_below 25 (λ i. digit i taps * bit taps (k + i)) % 2
unfolding bit new_bit
recurrence taps k =
    let stages = after taps k first_stages in
    let h : stages < 2 ^ 25 = after_lt taps k first_stages (lit< tt) in
    let at : (i : ℕ) → i < 25 → digit i stages ≡ bit taps (k + i) = λ i hi. sym (ap (digit 0) (after_add taps k i first_stages) ∙ stage taps i stages hi h) in
    ap (digit 0) (after_add taps k 25 first_stages)
    ∙ after_25 taps stages h
    ∙ ap (λ (x : ℕ). x % 2)
    (sum_ext 25 (λ i. digit i taps * digit i stages) (λ i. digit i taps * bit taps (k + i)) (λ i hi. ap (λ (x : ℕ). digit i taps * x) (at i hi)))

-- s(0) to s(2) are 1 and s(3) to s(24) are 0, for all taps
pub first_bits : (taps k : ℕ) → k < 25 → bit taps k ≡ cond (ltb k 3) 1 0
unfolding bit
first_bits taps k h =
    let test : ℕ → Bool = λ i. eqb (digit i first_stages) (cond (ltb i 3) 1 0) in
    stage taps k first_stages h (lit< tt) ∙ eqb→eq (digit k first_stages) (cond (ltb k 3) 1 0) (below 25 test tt k h)

-- ---- byte by byte

with_key_at : (taps k : ℕ) (bytes : List ℕ) (i : ℕ) → i < length bytes → get_or (with_key taps k bytes) i 0 ≡ bit_xor (get_or bytes i 0) (key_byte taps (k + i))
unfolding with_key
with_key_at taps k [] i h = absurd (not-suc-le-zero h)
with_key_at taps k (b ∷ bytes) zero h = ap (λ (j : ℕ). bit_xor b (key_byte taps j)) (sym (add-zero k))
with_key_at taps k (b ∷ bytes) (suc i) h =
    with_key_at taps (suc k) bytes i (le_of_suc-le-suc h)
    ∙ ap (λ (j : ℕ). bit_xor (get_or bytes i 0) (key_byte taps j)) (suc-add k i ∙ sym (add-suc k i))

-- byte k is that of the message and that of the key, added
pub scrambled_byte : (taps : ℕ) (bytes : List ℕ) (k : ℕ) → k < length bytes → get_or (scrambled taps bytes) k 0 ≡ bit_xor (get_or bytes k 0) (key_byte taps k)
unfolding scrambled
scrambled_byte taps bytes k h = with_key_at taps 0 bytes k h ∙ ap (λ (j : ℕ). bit_xor (get_or bytes k 0) (key_byte taps j)) (zero-add k)

-- ---- the first bytes

-- n digits from digit i on, the first of them the highest
abbrev digits_from : ℕ → ℕ → ℕ → ℕ
digits_from zero i x = 0
digits_from (suc n) i x = digit i x * 2 ^ n + digits_from n (suc i) x

key_digits : (taps n i stages : ℕ) → i + n ≤ 25 → stages < 2 ^ 25 → key taps n (after taps i stages) ≡ digits_from n i stages
unfolding key after
key_digits taps zero i stages h hs = refl
key_digits taps (suc n) i stages h hs =
    ap₂ (λ (x y : ℕ). x * 2 ^ n + y) (stage taps i stages (omega arith) hs)
    (ap (key taps n) (sym (after_add taps i 1 stages) ∙ ap (λ (m : ℕ). after taps m stages) (add-one i)) ∙ key_digits taps n (suc i) stages (omega arith) hs)

-- bytes 0 to 2 are E0 00 00 for all taps
pub first_bytes : (taps : ℕ) → scrambled taps (zeros 3) ≡ 0xE0 ∷ 0 ∷ 0 ∷ []
unfolding scrambled_from after
first_bytes taps =
    scrambled_stages taps (zeros 3)
    ∙ ap₂ (λ (x : ℕ) (l : List ℕ). x ∷ l) (key_digits taps 8 0 first_stages (lit≤ tt) (lit< tt))
    (ap₂ (λ (x : ℕ) (l : List ℕ). x ∷ l) (key_digits taps 8 8 first_stages (lit≤ tt) (lit< tt))
    (ap (λ (x : ℕ). x ∷ []) (ap (key taps 8) (sym (after_add taps 8 8 first_stages)) ∙ key_digits taps 8 16 first_stages (lit≤ tt) (lit< tt))))
