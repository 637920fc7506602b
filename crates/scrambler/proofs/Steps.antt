-- What the code's steps and loops come to.
use mathlib.Core.Path.{◌≡◌, refl, sym, ap, ap₂, ◌∙◌, subst}
use mathlib.Core.List.{List, [], ◌∷◌, ◌++◌, append_assoc, append-nil}
use Prim.Native.Nat.{ℕ, zero, suc, ◌+◌, ◌-◌, ◌*◌, ◌/◌, ◌%◌, ◌^◌, ◌≤◌, ◌<◌}
use native.Mathlib.Nat.{mod-lt, add-mul, mul_assoc, mul_comm, add_assoc, pow-suc, le_refl, le-mul_of_pos_right, lt_of_le_of_lt, add-zero, mul-one, mul-zero}
use native.Mathlib.Numerals.{add-one}
use native.Mathlib.Omega.{arith}
use lib.Dec.{lit<}
use lib.Arith.{le-zero, lt-one, digits_lt}
use lib.Pow.{pow_pos, shr_lt}
use lib.Bits.{bit_and, bit_xor, and_shr, and_mod, and_le_l}
use lib.Count.{ones, ones_step}
use lib.Seq.{drop-cons, take-suc-set, drop-set-lt, take_all}
use lib.ListN.{length, get_or, take, drop, set, drop_of_length-le}
use Rattle.basics.proofs.Xor.{bit_cases}
use Rattle.basics.specs.Numbers.{digit}
use Rattle.scrambler.specs.Scrambler.{sum_below, new_bit, next, after}
use Rattle.scrambler.specs.Keys.{key, scrambled_from}
use Rattle.scrambler.proofs.Stages.{digit_zero, digit_suc, sum_ext}

-- ---- the new bit: the parity of the stages under the taps

ones_of_zero : ones 0 ≡ 0
unfolding ones
ones_of_zero = refl

-- the number of ones is the sum of the digits
ones_sum : (n x : ℕ) → x < 2 ^ n → ones x ≡ sum_below n (λ i. digit i x)
unfolding sum_below
ones_sum zero x h = ap ones (lt-one h) ∙ ones_of_zero
ones_sum (suc n) x h =
    ones_step x
    ∙ ap₂ (λ (a b : ℕ). a + b) (sym (digit_zero x))
    (ones_sum n (x / 2) (shr_lt n 1 (subst (λ (m : ℕ). x < 2 ^ m) (sym (add-one n)) h))
    ∙ sum_ext n (λ i. digit i (x / 2)) (λ i. digit (suc i) x) (λ i hi. digit_suc i x))

and_bit : (u v : ℕ) → u < 2 → v < 2 → bit_and u v ≡ v * u
and_bit u v hu hv =
    bit_cases (λ u. bit_and u v ≡ v * u) (sym (mul-zero v))
    (bit_cases (λ v. bit_and 1 v ≡ v * 1) refl refl v hv) u hu

and_digit : (i x y : ℕ) → digit i (bit_and x y) ≡ digit i y * digit i x
and_digit i x y =
    ap (λ (z : ℕ). z % 2) (and_shr x y i) ∙ and_mod (x / 2 ^ i) (y / 2 ^ i) 1
    ∙ and_bit (digit i x) (digit i y) (mod-lt (x / 2 ^ i) (lit< tt)) (mod-lt (y / 2 ^ i) (lit< tt))

pub parity : (taps stages : ℕ) → stages < 2 ^ 25 → ones (bit_and stages taps) % 2 ≡ new_bit taps stages
unfolding new_bit
parity taps stages h =
    ap (λ (x : ℕ). x % 2)
    (ones_sum 25 (bit_and stages taps) (lt_of_le_of_lt (and_le_l stages taps) h)
    ∙ sum_ext 25 (λ i. digit i (bit_and stages taps)) (λ i. digit i taps * digit i stages) (λ i hi. and_digit i stages taps))

-- ---- a byte of the key, a bit a turn: the code counts down the n bits that remain

one_less : (n : ℕ) → 0 < n → n ≡ suc (n - 1)
one_less n h = omega arith

key_suc : (taps byte stages n : ℕ) → byte * 2 ^ suc n + key taps (suc n) stages ≡ (byte * 2 + stages % 2) * 2 ^ n + key taps n (next taps stages)
unfolding key
key_suc taps byte stages n =
    let rest = key taps n (next taps stages) in
    ap₂ (λ (x y : ℕ). x + (y * 2 ^ n + rest))
    (ap (λ (x : ℕ). byte * x) (pow-suc 2 n ∙ mul_comm (2 ^ n) 2) ∙ sym (mul_assoc byte 2 (2 ^ n))) (digit_zero stages)
    ∙ sym (add_assoc (byte * 2 * 2 ^ n) (stages % 2 * 2 ^ n) rest)
    ∙ ap (λ (x : ℕ). x + rest) (sym (add-mul (byte * 2) (stages % 2) (2 ^ n)))

pub key_turn : (taps byte stages n : ℕ) → 0 < n
    → (byte * 2 + stages % 2) * 2 ^ (n - 1) + key taps (n - 1) (next taps stages) ≡ byte * 2 ^ n + key taps n stages
key_turn taps byte stages n h = sym (ap (λ (x : ℕ). byte * 2 ^ x + key taps x stages) (one_less n h) ∙ key_suc taps byte stages (n - 1))

pub key_end : (taps byte stages n : ℕ) → n ≤ 0 → byte * 2 ^ n + key taps n stages ≡ byte
unfolding key
key_end taps byte stages n h = ap (λ (x : ℕ). byte * 2 ^ x + key taps x stages) (le-zero h) ∙ add-zero (byte * 1) ∙ mul-one byte

pub after_turn : (taps stages n : ℕ) → 0 < n → after taps (n - 1) (next taps stages) ≡ after taps n stages
unfolding after
after_turn taps stages n h = sym (ap (λ (x : ℕ). after taps x stages) (one_less n h))

pub after_end : (taps stages n : ℕ) → n ≤ 0 → after taps n stages ≡ stages
unfolding after
after_end taps stages n h = ap (λ (x : ℕ). after taps x stages) (le-zero h)

pub key_lt : (taps n stages : ℕ) → key taps n stages < 2 ^ n
unfolding key
key_lt taps zero stages = lit< tt
key_lt taps (suc n) stages =
    subst (λ (x : ℕ). digit 0 stages * 2 ^ n + key taps n (next taps stages) < x) (mul_comm 2 (2 ^ n) ∙ sym (pow-suc 2 n))
    (digits_lt (mod-lt _ (lit< tt)) (key_lt taps n (next taps stages)))

-- the byte so far leaves room for one more bit
pub room : (taps byte stages n start : ℕ) → 0 < n → byte * 2 ^ n + key taps n stages ≡ key taps 8 start → byte * 2 < 256
room taps byte stages n start h e =
    let whole : key taps 8 start < 256 = key_lt taps 8 start in
    let halves : byte * 2 ^ n ≡ byte * 2 * 2 ^ (n - 1) =
    ap (λ (x : ℕ). byte * 2 ^ x) (one_less n h) ∙ ap (λ (x : ℕ). byte * x) (pow-suc 2 (n - 1) ∙ mul_comm (2 ^ (n - 1)) 2)
    ∙ sym (mul_assoc byte 2 (2 ^ (n - 1))) in
    omega (arith, le-mul_of_pos_right (byte * 2) (pow_pos (n - 1)))

-- ---- in place: the bytes before i are scrambled, and the rest is to come

pub bytes_turn : (taps stages : ℕ) (l : List ℕ) (i v later : ℕ) → i < length l
    → v ≡ bit_xor (get_or l i 0) (key taps 8 stages) → later ≡ after taps 8 stages
    → take (i + 1) (set l i v) ++ scrambled_from taps later (drop (i + 1) (set l i v)) ≡ take i l ++ scrambled_from taps stages (drop i l)
unfolding scrambled_from
bytes_turn taps stages l i v later h e f =
    ap (λ (n : ℕ). take n (set l i v) ++ scrambled_from taps later (drop n (set l i v))) (add-one i)
    ∙ ap₂ (λ (a b : List ℕ). a ++ scrambled_from taps later b) (take-suc-set l i v h) (drop-set-lt (suc i) l i v (le_refl (suc i)))
    ∙ append_assoc (take i l) (v ∷ []) (scrambled_from taps later (drop (suc i) l))
    ∙ ap₂ (λ (x y : ℕ). take i l ++ (x ∷ scrambled_from taps y (drop (suc i) l))) e f
    ∙ ap (λ (b : List ℕ). take i l ++ scrambled_from taps stages b) (sym (drop-cons l i 0 h))

pub bytes_end : (taps stages : ℕ) (l : List ℕ) (i : ℕ) → length l ≤ i → take i l ++ scrambled_from taps stages (drop i l) ≡ l
unfolding scrambled_from
bytes_end taps stages l i h =
    ap (λ (b : List ℕ). take i l ++ scrambled_from taps stages b) (drop_of_length-le l h) ∙ append-nil (take i l) ∙ take_all i l h
