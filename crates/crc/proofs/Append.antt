-- The CRC-32 of two messages, one behind the other, from those of the two: the first's is doubled for each bit of the second, and added (`crc_append`).
use mathlib.Core.Path.{◌≡◌, refl, sym, ap, ap₂, ◌∙◌}
use mathlib.Core.List.{List, [], ◌∷◌, ◌++◌, append_assoc}
use Prim.Native.Nat.{ℕ, zero, suc, ◌+◌, ◌*◌, ◌^◌, ◌<◌}
use native.Mathlib.Nat.{zero-add, suc-add, le_refl}
use lib.Pow.{pow_pos}
use lib.Bits.{bit_xor, xor_zero_r}
use lib.ListN.{length}
use Rattle.basics.specs.Numbers.{bits}
use Rattle.basics.specs.Lists.{zeros}
use Rattle.basics.proofs.Lists.{zeros_length}
use Rattle.division.specs.Doubling.{twice}
use Rattle.division.proofs.Doubling.{twice_lt}
use Rattle.division.proofs.Register.{plus_zeros}
use Rattle.crc.specs.Crc.{message_bits, crc32_polynomial, crc_32}
use Rattle.crc.specs.Register.{bit_steps, doubled, raised}
use Rattle.crc.proofs.Number.{Bits, bit_step_lem}
use Rattle.crc.proofs.Bytes.{doubled_xor, bit_steps_append, message_bits_lem, zeros_bits, crc_bits, crc_lt}
use Rattle.crc.proofs.Linear.{message_length, bit_steps_xor}

-- ---- a register times a power of x

pub raised_add : (j m r : ℕ) → raised (j + m) r ≡ raised m (raised j r)
unfolding doubled
raised_add zero m r = ap (λ (n : ℕ). raised n r) (zero-add m)
raised_add (suc j) m r = ap (λ (n : ℕ). raised n r) (suc-add j m) ∙ raised_add j m (twice 32 crc32_polynomial r)

pub raised_lt : (j r : ℕ) → r < 2 ^ 32 → raised j r < 2 ^ 32
unfolding doubled
raised_lt zero r h = h
raised_lt (suc j) r h = raised_lt j (twice 32 crc32_polynomial r) (twice_lt 32 crc32_polynomial r refl h)

pub raised_xor : (j a b : ℕ) → a < 2 ^ 32 → b < 2 ^ 32 → raised j (bit_xor a b) ≡ bit_xor (raised j a) (raised j b)
raised_xor j a b ha hb = doubled_xor 31 crc32_polynomial refl j a b ha hb

-- ---- bits go into a register

abbrev steps : ℕ → List ℕ → ℕ
steps r bs = bit_steps 32 crc32_polynomial r bs

-- those that are 0 only double it
steps_zeros : (j r : ℕ) → steps r (zeros j) ≡ raised j r
unfolding bit_steps doubled
steps_zeros zero r = refl
steps_zeros (suc j) r =
    ap (λ (x : ℕ). steps x (zeros j)) (bit_step_lem 31 crc32_polynomial r 0 ∙ ap (twice 32 crc32_polynomial) (xor_zero_r r))
    ∙ steps_zeros j (twice 32 crc32_polynomial r)

steps_parts : (bs : List ℕ) (r : ℕ) → Bits bs → r < 2 ^ 32 → steps r bs ≡ bit_xor (raised (length bs) r) (steps 0 bs)
steps_parts bs r hb h =
    let n = length bs in
    ap₂ steps (sym (xor_zero_r r)) (sym (plus_zeros n bs (le_refl n)))
    ∙ bit_steps_xor 31 crc32_polynomial refl (zeros n) bs r 0 (zeros_length n) (zeros_bits n) hb h (pow_pos 32)
    ∙ ap (λ (x : ℕ). bit_xor x (steps 0 bs)) (steps_zeros n r)

-- ---- check sums

message_append : (m n : List ℕ) → message_bits (m ++ n) ≡ message_bits m ++ message_bits n
unfolding message_bits
message_append [] n = refl
message_append (b ∷ m) n = ap (λ (bs : List ℕ). bits 8 b ++ bs) (message_append m n) ∙ sym (append_assoc (bits 8 b) (message_bits m) (message_bits n))

pub crc_32_lt : (m : List ℕ) → crc_32 m < 2 ^ 32
unfolding crc_32
crc_32_lt m = crc_lt 31 crc32_polynomial refl m

crc_steps : (m : List ℕ) → crc_32 m ≡ steps 0 (message_bits m)
unfolding crc_32
crc_steps m = crc_bits 31 crc32_polynomial refl m

pub crc_append : (m n : List ℕ) → crc_32 (m ++ n) ≡ bit_xor (raised (8 * length n) (crc_32 m)) (crc_32 n)
crc_append m n =
    crc_steps (m ++ n) ∙ ap (steps 0) (message_append m n) ∙ bit_steps_append 32 crc32_polynomial 0 (message_bits m) (message_bits n)
    ∙ ap (λ (r : ℕ). steps r (message_bits n)) (sym (crc_steps m))
    ∙ steps_parts (message_bits n) (crc_32 m) (message_bits_lem n) (crc_32_lt m)
    ∙ ap₂ (λ (j y : ℕ). bit_xor (raised j (crc_32 m)) y) (message_length n) (sym (crc_steps n))
