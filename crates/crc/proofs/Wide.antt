-- A polynomial of degree 16 times x^16 divides with a register of 32 bits: the check sum is that of the polynomial, times x^16.
use mathlib.Core.Path.{◌≡◌, refl, sym, ap, ap₂, ◌∙◌}
use mathlib.Core.List.{List, [], ◌∷◌}
use Prim.Native.Nat.{ℕ, ◌*◌, ◌/◌, ◌^◌}
use native.Mathlib.Nat.{mul_assoc}
use native.Mathlib.Omega.{arith}
use lib.Bits.{bit_xor}
use Rattle.basics.proofs.Xor.{xor_shl}
use Rattle.division.specs.Doubling.{twice}
use Rattle.crc.specs.Crc.{message_bits, crc, crc16_polynomial, crc_16}
use Rattle.crc.specs.Register.{bit_step, bit_steps}
use Rattle.crc.proofs.Number.{bit_step_lem}
use Rattle.crc.proofs.Bytes.{crc_bits}

wide_twice : (p r : ℕ) → twice 32 (p * 2 ^ 16) (r * 2 ^ 16) ≡ twice 16 p r * 2 ^ 16
unfolding twice
wide_twice p r =
    let double : r * 2 ^ 16 * 2 ≡ r * 2 * 2 ^ 16 = omega arith in
    let top : r * 2 ^ 16 * 2 / 2 ^ 32 ≡ r * 2 / 2 ^ 16 = omega arith in
    ap₂ bit_xor double (ap (λ (x : ℕ). x * (p * 2 ^ 16)) top ∙ sym (mul_assoc (r * 2 / 2 ^ 16) p (2 ^ 16)))
    ∙ sym (xor_shl 16 (r * 2) (r * 2 / 2 ^ 16 * p))

wide_step : (p r b : ℕ) → bit_step 32 (p * 2 ^ 16) (r * 2 ^ 16) b ≡ bit_step 16 p r b * 2 ^ 16
wide_step p r b =
    let bit : b * 2 ^ 31 ≡ b * 2 ^ 15 * 2 ^ 16 = omega arith in
    bit_step_lem 31 (p * 2 ^ 16) (r * 2 ^ 16) b
    ∙ ap (twice 32 (p * 2 ^ 16)) (ap (bit_xor (r * 2 ^ 16)) bit ∙ sym (xor_shl 16 r (b * 2 ^ 15)))
    ∙ wide_twice p (bit_xor r (b * 2 ^ 15))
    ∙ ap (λ (x : ℕ). x * 2 ^ 16) (sym (bit_step_lem 15 p r b))

wide_steps : (p r : ℕ) (bs : List ℕ) → bit_steps 32 (p * 2 ^ 16) (r * 2 ^ 16) bs ≡ bit_steps 16 p r bs * 2 ^ 16
unfolding bit_steps
wide_steps p r [] = refl
wide_steps p r (b ∷ bs) = ap (λ (x : ℕ). bit_steps 32 (p * 2 ^ 16) x bs) (wide_step p r b) ∙ wide_steps p (bit_step 16 p r b) bs

pub wide_crc : (m : List ℕ) → crc 32 (crc16_polynomial * 2 ^ 16) m ≡ crc_16 m * 2 ^ 16
unfolding crc_16
wide_crc m =
    crc_bits 31 (crc16_polynomial * 2 ^ 16) refl m ∙ wide_steps crc16_polynomial 0 (message_bits m)
    ∙ ap (λ (x : ℕ). x * 2 ^ 16) (sym (crc_bits 15 crc16_polynomial refl m))
