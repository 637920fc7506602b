-- The stages: a step moves each bit one place down and brings the new one in at the top, so stage i is the bit that comes out after i steps.
use mathlib.Core.Path.{◌≡◌, refl, sym, ap, ap₂, ◌∙◌}
use Prim.Native.Nat.{ℕ, zero, suc, ◌+◌, ◌-◌, ◌*◌, ◌/◌, ◌%◌, ◌^◌, ◌<◌}
use native.Mathlib.Nat.{mod-lt, mod-eq_of_lt, suc-add, zero-add, add_comm, mul_assoc, div-one}
use native.Mathlib.Numerals.{one-add}
use native.Mathlib.Omega.{arith}
use lib.Dec.{lit<}
use lib.Pow.{shr-shr, shl-shr, shr_lt, pow-add, high}
use lib.Bits.{bit_xor, xor_shr, xor_mod, xor_shifted, shifted_even}
use Rattle.basics.specs.Numbers.{digit}
use Rattle.scrambler.specs.Scrambler.{sum_below, new_bit, next, after}

-- ---- digits and sums

pub digit_zero : (x : ℕ) → digit 0 x ≡ x % 2
digit_zero x = ap (λ (y : ℕ). y % 2) (div-one x)

pub digit_suc : (i x : ℕ) → digit i (x / 2) ≡ digit (suc i) x
digit_suc i x = ap (λ (y : ℕ). y % 2) (shr-shr x 1 i ∙ ap (λ (n : ℕ). x / 2 ^ n) (one-add i))

pub sum_ext : (n : ℕ) (f g : ℕ → ℕ) → ((i : ℕ) → i < n → f i ≡ g i) → sum_below n f ≡ sum_below n g
unfolding sum_below
sum_ext zero f g e = refl
sum_ext (suc n) f g e = ap₂ (λ (a b : ℕ). a + b) (e 0 (omega arith)) (sum_ext n (λ i. f (suc i)) (λ i. g (suc i)) (λ i h. e (suc i) (omega arith)))

-- ---- steps

new_bit_lt : (taps stages : ℕ) → new_bit taps stages < 2
unfolding new_bit
new_bit_lt taps stages = mod-lt _ (lit< tt)

pub next_lt : (taps stages : ℕ) → stages < 2 ^ 25 → next taps stages < 2 ^ 25
unfolding next
next_lt taps stages h = omega (arith, new_bit_lt taps stages)

pub after_lt : (taps n stages : ℕ) → stages < 2 ^ 25 → after taps n stages < 2 ^ 25
unfolding after
after_lt taps zero stages h = h
after_lt taps (suc n) stages h = after_lt taps n (next taps stages) (next_lt taps stages h)

pub after_add : (taps m n stages : ℕ) → after taps (m + n) stages ≡ after taps n (after taps m stages)
unfolding after
after_add taps zero n stages = ap (λ (k : ℕ). after taps k stages) (zero-add n)
after_add taps (suc m) n stages = ap (λ (k : ℕ). after taps k stages) (suc-add m n) ∙ after_add taps m n (next taps stages)

-- the new bit comes in at the top
pub next_top : (taps stages : ℕ) → stages < 2 ^ 25 → digit 24 (next taps stages) ≡ new_bit taps stages
unfolding next
next_top taps stages h =
    ap (λ (x : ℕ). x / 2 ^ 24 % 2) (add_comm (stages / 2) (new_bit taps stages * 2 ^ 24))
    ∙ ap (λ (x : ℕ). x % 2) (high (new_bit taps stages) 24 (shr_lt 24 1 h))
    ∙ mod-eq_of_lt (new_bit_lt taps stages)

-- the others move down by one place; d places are above i
next_digit : (taps stages i d : ℕ) → stages < 2 ^ 25 → suc d + i ≡ 24 → digit i (next taps stages) ≡ digit (suc i) stages
unfolding next
next_digit taps stages i d h e =
    let new = new_bit taps stages in
    let half : stages / 2 < 2 ^ 24 = shr_lt 24 1 h in
    let above : digit i (new * 2 ^ 24) ≡ 0 =
    ap (λ (n : ℕ). new * 2 ^ n / 2 ^ i % 2) (sym e) ∙ ap (λ (x : ℕ). new * x / 2 ^ i % 2) (pow-add 2 (suc d) i)
    ∙ ap (λ (x : ℕ). x / 2 ^ i % 2) (sym (mul_assoc new (2 ^ suc d) (2 ^ i)))
    ∙ ap (λ (x : ℕ). x % 2) (shl-shr (new * 2 ^ suc d) i) ∙ shifted_even new d in
    ap (digit i) (add_comm (stages / 2) (new * 2 ^ 24) ∙ sym (xor_shifted new 24 (stages / 2) half))
    ∙ ap (λ (x : ℕ). x % 2) (xor_shr (new * 2 ^ 24) (stages / 2) i)
    ∙ xor_mod (new * 2 ^ 24 / 2 ^ i) (stages / 2 / 2 ^ i) 1
    ∙ ap (λ (x : ℕ). bit_xor x (digit i (stages / 2))) above
    ∙ digit_suc i stages

pub stage : (taps i stages : ℕ) → i < 25 → stages < 2 ^ 25 → digit 0 (after taps i stages) ≡ digit i stages
unfolding after
stage taps zero stages hi h = refl
stage taps (suc i) stages hi h =
    stage taps i (next taps stages) (omega arith) (next_lt taps stages h) ∙ next_digit taps stages i (23 - i) h (omega arith)
