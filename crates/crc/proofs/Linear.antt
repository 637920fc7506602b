-- The check sum of a sum of two messages is the sum of their check sums.
use mathlib.Core.Path.{◌≡◌, refl, sym, ap, ap₂, ◌∙◌}
use mathlib.Core.List.{List, [], ◌∷◌, ◌++◌}
use Prim.Native.Nat.{ℕ, zero, suc, ◌*◌, ◌/◌, ◌%◌, ◌^◌, ◌<◌}
use native.Mathlib.Nat.{suc_inj, suc-ne-zero}
use native.Mathlib.Omega.{arith}
use lib.Pow.{pow_pos}
use lib.Bits.{bit_xor, xor_shr, xor_mod}
use lib.ListN.{length, length-append}
use Rattle.basics.specs.Numbers.{bits}
use Rattle.basics.proofs.Xor.{xor_shl, xor_cross}
use Rattle.division.specs.Doubling.{twice}
use Rattle.division.proofs.Doubling.{twice_xor}
use Rattle.division.specs.Division.{plus}
use Rattle.division.proofs.Linear.{plus_append}
use Rattle.crc.specs.Crc.{message_bits, crc}
use Rattle.crc.specs.Register.{bit_step, bit_steps}
use Rattle.crc.proofs.Number.{Bits, bits_length, bit_step_lem, with_bit_lt, bit_step_lt}
use Rattle.crc.proofs.Bytes.{crc_bits, message_bits_lem}

bits_xor : (n a b : ℕ) → bits n (bit_xor a b) ≡ plus (bits n a) (bits n b)
unfolding bits plus
bits_xor zero a b = refl
bits_xor (suc n) a b =
    ap₂ (λ (h : ℕ) (t : List ℕ). h ∷ t) (ap (λ (x : ℕ). x % 2) (xor_shr a b n) ∙ xor_mod (a / 2 ^ n) (b / 2 ^ n) 1) (bits_xor n a b)

pub message_length : (m : List ℕ) → length (message_bits m) ≡ 8 * length m
unfolding message_bits
message_length [] = refl
message_length (b ∷ m) = omega (arith, length-append (bits 8 b) (message_bits m), bits_length 8 b, message_length m)

message_plus : (m n : List ℕ) → length m ≡ length n → message_bits (plus m n) ≡ plus (message_bits m) (message_bits n)
unfolding message_bits plus
message_plus [] [] e = refl
message_plus [] (y ∷ n) e = absurd (suc-ne-zero (length n) (sym e))
message_plus (x ∷ m) [] e = absurd (suc-ne-zero (length m) e)
message_plus (x ∷ m) (y ∷ n) e =
    ap₂ (λ (a b : List ℕ). a ++ b) (bits_xor 8 x y) (message_plus m n (suc_inj e))
    ∙ sym (plus_append (bits 8 x) (bits 8 y) (message_bits m) (message_bits n) (bits_length 8 x ∙ sym (bits_length 8 y)))

module _ (k p : ℕ) (degree : p / 2 ^ suc k ≡ 1) where
  bit_step_xor : (r s b c : ℕ) → r < 2 ^ suc k → s < 2 ^ suc k → b < 2 → c < 2
      → bit_step (suc k) p (bit_xor r s) (bit_xor b c) ≡ bit_xor (bit_step (suc k) p r b) (bit_step (suc k) p s c)
  bit_step_xor r s b c hr hs hb hc =
      let x = bit_xor r (b * 2 ^ k) in
      let y = bit_xor s (c * 2 ^ k) in
      bit_step_lem k p (bit_xor r s) (bit_xor b c)
      ∙ ap (twice (suc k) p) (ap (bit_xor (bit_xor r s)) (xor_shl k b c) ∙ xor_cross r s (b * 2 ^ k) (c * 2 ^ k))
      ∙ twice_xor (suc k) p x y (with_bit_lt k r b hr hb) (with_bit_lt k s c hs hc)
      ∙ sym (ap₂ bit_xor (bit_step_lem k p r b) (bit_step_lem k p s c))

  pub bit_steps_xor : (bs cs : List ℕ) (r s : ℕ) → length bs ≡ length cs → Bits bs → Bits cs → r < 2 ^ suc k → s < 2 ^ suc k
      → bit_steps (suc k) p (bit_xor r s) (plus bs cs) ≡ bit_xor (bit_steps (suc k) p r bs) (bit_steps (suc k) p s cs)
  unfolding bit_steps plus
  bit_steps_xor [] [] r s e hb hc hr hs = refl
  bit_steps_xor [] (c ∷ cs) r s e hb hc hr hs = absurd (suc-ne-zero (length cs) (sym e))
  bit_steps_xor (b ∷ bs) [] r s e hb hc hr hs = absurd (suc-ne-zero (length bs) e)
  bit_steps_xor (b ∷ bs) (c ∷ cs) r s e hb hc hr hs =
      ap (λ (x : ℕ). bit_steps (suc k) p x (plus bs cs)) (bit_step_xor r s b c hr hs hb.0 hc.0)
      ∙ bit_steps_xor bs cs (bit_step (suc k) p r b) (bit_step (suc k) p s c) (suc_inj e) hb.1 hc.1
      (bit_step_lt k p degree r b hr hb.0) (bit_step_lt k p degree s c hs hc.0)

  pub crc_plus : (m n : List ℕ) → length m ≡ length n → crc (suc k) p (plus m n) ≡ bit_xor (crc (suc k) p m) (crc (suc k) p n)
  crc_plus m n e =
      crc_bits k p degree (plus m n) ∙ ap (bit_steps (suc k) p 0) (message_plus m n e)
      ∙ bit_steps_xor (message_bits m) (message_bits n) 0 0 (message_length m ∙ ap (λ (l : ℕ). 8 * l) e ∙ sym (message_length n))
      (message_bits_lem m) (message_bits_lem n) (pow_pos (suc k)) (pow_pos (suc k))
      ∙ sym (ap₂ bit_xor (crc_bits k p degree m) (crc_bits k p degree n))
