-- Doubling modulo a polynomial keeps sums, and keeps below 2^n.
use mathlib.Core.Path.{◌≡◌, refl, sym, ap, ap₂, ◌∙◌, subst}
use Prim.Native.Nat.{ℕ, ◌*◌, ◌/◌, ◌^◌, ◌<◌}
use native.Mathlib.Nat.{mul_comm, zero-mul, one-mul, div-lt_iff_lt-mul, mul-lt-mul_of_pos_right}
use lib.Dec.{lit<}
use lib.Pow.{pow_pos}
use lib.Bits.{bit_xor, xor_shr}
use Rattle.division.specs.Doubling.{twice}
use Rattle.basics.proofs.Xor.{xor_shl, xor_cross, xor_bit_mul, bit_cases}

-- the bit that leaves at the top
pub top : (n a : ℕ) → a < 2 ^ n → a * 2 / 2 ^ n < 2
top n a h = (div-lt_iff_lt-mul (pow_pos n)).1 (subst (λ (x : ℕ). a * 2 < x) (mul_comm (2 ^ n) 2) (mul-lt-mul_of_pos_right h (lit< tt)))

pub twice_xor : (n p a b : ℕ) → a < 2 ^ n → b < 2 ^ n → twice n p (bit_xor a b) ≡ bit_xor (twice n p a) (twice n p b)
unfolding twice
twice_xor n p a b ha hb =
    let e : bit_xor a b * 2 ≡ bit_xor (a * 2) (b * 2) = xor_shl 1 a b in
    ap₂ bit_xor e
    (ap (λ (x : ℕ). x * p) (ap (λ (x : ℕ). x / 2 ^ n) e ∙ xor_shr (a * 2) (b * 2) n)
    ∙ xor_bit_mul (a * 2 / 2 ^ n) (b * 2 / 2 ^ n) p (top n a ha) (top n b hb))
    ∙ xor_cross (a * 2) (b * 2) (a * 2 / 2 ^ n * p) (b * 2 / 2 ^ n * p)

-- p has degree n
below_top : (n x t p : ℕ) → t < 2 → p / 2 ^ n ≡ 1 → x / 2 ^ n ≡ t → bit_xor x (t * p) / 2 ^ n ≡ 0
below_top n x t p ht hp =
    bit_cases (λ t. x / 2 ^ n ≡ t → bit_xor x (t * p) / 2 ^ n ≡ 0)
    (λ e. xor_shr x (0 * p) n ∙ ap₂ bit_xor e (ap (λ (y : ℕ). y / 2 ^ n) (zero-mul p) ∙ native.Mathlib.Nat.zero-div (2 ^ n)))
    (λ e. xor_shr x (1 * p) n ∙ ap₂ bit_xor e (ap (λ (y : ℕ). y / 2 ^ n) (one-mul p) ∙ hp))
    t ht

pub twice_lt : (n p a : ℕ) → p / 2 ^ n ≡ 1 → a < 2 ^ n → twice n p a < 2 ^ n
unfolding twice
twice_lt n p a hp h =
    let e = below_top n (a * 2) (a * 2 / 2 ^ n) p (top n a h) hp refl in
    subst (λ (x : ℕ). bit_xor (a * 2) (a * 2 / 2 ^ n * p) < x) (one-mul (2 ^ n))
    ((div-lt_iff_lt-mul (pow_pos n)).0 (subst (λ (x : ℕ). x < 1) (sym e) (lit< tt)))
