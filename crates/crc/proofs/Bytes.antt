-- A byte at a time: eight steps of the register are a byte added at its top, and eight doublings; a loop over a message's bytes comes to its check sum. The
-- width is suc k, p is a polynomial of that degree, and q bits stand below those that are added.
use mathlib.Core.Path.{◌≡◌, refl, sym, ap, ap₂, ◌∙◌, subst}
use mathlib.Core.List.{List, [], ◌∷◌, ◌++◌}
use Prim.Native.Nat.{ℕ, zero, suc, ◌+◌, ◌-◌, ◌*◌, ◌/◌, ◌%◌, ◌^◌, ◌≤◌, ◌<◌}
use native.Mathlib.Nat.{suc_inj, mod-lt, mod-one, mod-eq_of_lt, pow-suc, zero-mul, mul_assoc, add-suc, suc-add, add_comm, div-eq_of_lt, lt_of_lt_of_le}
use native.Mathlib.Numerals.{add-one, one-add}
use native.Mathlib.Omega.{arith}
use lib.Dec.{lit<}
use lib.Pow.{pow_pos, pow_mono, mod-pow-add, shl_lt, pow-add}
use lib.Bits.{bit_xor, xor_zero_r, xor_shifted}
use lib.Seq.{drop-cons}
use lib.ListN.{length, get_or, drop, drop_of_length-le}
use Rattle.basics.specs.Numbers.{bits, number}
use Rattle.basics.specs.Lists.{zeros}
use Rattle.basics.proofs.Xor.{xor_assoc, xor_shl}
use Rattle.basics.proofs.Lists.{zeros_length}
use Rattle.division.specs.Doubling.{twice}
use Rattle.division.proofs.Doubling.{twice_xor, twice_lt}
use Rattle.division.proofs.Register.{check_feed}
use Rattle.crc.specs.Crc.{message_bits, crc, crc16_polynomial, crc_16}
use Rattle.crc.specs.Register.{bit_step, bit_steps, byte_step, doubled}
use Rattle.crc.proofs.Number.{times, Bits, bits_length, bits_are_bits, append_bits, feed_number, bit_step_lem, with_bit_lt, bit_steps_lt}

module _ (k p : ℕ) (degree : p / 2 ^ suc k ≡ 1) where
  pub doubled_xor : (j a b : ℕ) → a < 2 ^ suc k → b < 2 ^ suc k → doubled (suc k) p j (bit_xor a b) ≡ bit_xor (doubled (suc k) p j a) (doubled (suc k) p j b)
  unfolding doubled
  doubled_xor zero a b ha hb = refl
  doubled_xor (suc j) a b ha hb =
      ap (doubled (suc k) p j) (twice_xor (suc k) p a b ha hb)
      ∙ doubled_xor j (twice (suc k) p a) (twice (suc k) p b) (twice_lt (suc k) p a degree ha) (twice_lt (suc k) p b degree hb)

  -- where nothing leaves at the top, doubling is that of numbers
  pub twice_small : (y : ℕ) → y < 2 ^ k → twice (suc k) p y ≡ y * 2
  unfolding twice
  twice_small y h =
      let l : y * 2 < 2 ^ suc k = subst (λ (x : ℕ). y * 2 < x) (sym (pow-suc 2 k)) (omega arith) in
      ap (λ (t : ℕ). bit_xor (y * 2) (t * p)) (div-eq_of_lt l) ∙ ap (bit_xor (y * 2)) (zero-mul p) ∙ xor_zero_r (y * 2)

  -- j bits that go in one by one can be added at the top at once
  bits_at_once : (j q r b : ℕ) → suc k ≡ q + j → r < 2 ^ suc k → bit_steps (suc k) p r (bits j b) ≡ doubled (suc k) p j (bit_xor r (b % 2 ^ j * 2 ^ q))
  unfolding bit_steps bits doubled
  bits_at_once zero q r b e h = sym (ap (λ (x : ℕ). bit_xor r (x * 2 ^ q)) (mod-one b) ∙ ap (bit_xor r) (zero-mul (2 ^ q)) ∙ xor_zero_r r)
  bits_at_once (suc j) q r b e h =
      let e' : k ≡ q + j = suc_inj (e ∙ add-suc q j) in
      let c = b / 2 ^ j % 2 in
      let x = bit_xor r (c * 2 ^ k) in
      let y = b % 2 ^ j * 2 ^ q in
      let hx : x < 2 ^ suc k = with_bit_lt k r c h (mod-lt (b / 2 ^ j) (lit< tt)) in
      let hy : y < 2 ^ k = subst (λ (x : ℕ). y < 2 ^ x) (add_comm j q ∙ sym e') (shl_lt j q (mod-lt b (pow_pos j))) in
      let hy' : y < 2 ^ suc k = lt_of_lt_of_le hy (pow_mono (omega arith)) in
      let sums : bit_xor (c * 2 ^ k) y ≡ b % 2 ^ suc j * 2 ^ q =
      ap (λ (z : ℕ). bit_xor z y) (ap (λ (n : ℕ). c * 2 ^ n) (e' ∙ add_comm q j) ∙ ap (λ (z : ℕ). c * z) (pow-add 2 j q) ∙ sym (mul_assoc c (2 ^ j) (2 ^ q)))
      ∙ sym (xor_shl q (c * 2 ^ j) (b % 2 ^ j))
      ∙ ap (λ (z : ℕ). z * 2 ^ q) (xor_shifted c j (b % 2 ^ j) (mod-lt b (pow_pos j)) ∙ sym (mod-pow-add b 1 j) ∙ ap (λ (n : ℕ). b % 2 ^ n) (one-add j)) in
      ap (λ (z : ℕ). bit_steps (suc k) p z (bits j b)) (bit_step_lem k p r c)
      ∙ bits_at_once j (suc q) (twice (suc k) p x) b (e ∙ add-suc q j ∙ sym (suc-add q j)) (twice_lt (suc k) p x degree hx)
      ∙ ap (λ (z : ℕ). doubled (suc k) p j (bit_xor (twice (suc k) p x) z))
      (ap (λ (z : ℕ). b % 2 ^ j * z) (pow-suc 2 q) ∙ sym (mul_assoc (b % 2 ^ j) (2 ^ q) 2) ∙ sym (twice_small y hy))
      ∙ ap (doubled (suc k) p j) (sym (twice_xor (suc k) p x y hx hy'))
      ∙ ap (λ (z : ℕ). doubled (suc k) p j (twice (suc k) p z)) (xor_assoc r (c * 2 ^ k) y ∙ ap (bit_xor r) sums)

  -- a byte, in a register with q bits below its top byte
  pub byte_added : (q r b : ℕ) → suc k ≡ q + 8 → r < 2 ^ suc k → b < 256 → byte_step (suc k) p r b ≡ doubled (suc k) p 8 (bit_xor r (b * 2 ^ q))
  unfolding byte_step
  byte_added q r b e h hb = bits_at_once 8 q r b e h ∙ ap (λ (x : ℕ). doubled (suc k) p 8 (bit_xor r (x * 2 ^ q))) (mod-eq_of_lt hb)

-- ---- a loop over the bits of a byte: a turn, from the register r to s, and the end

pub bits_turn : (n p j r s : ℕ) → j < 8 → s ≡ twice n p r → doubled n p (8 - (j + 1)) s ≡ doubled n p (8 - j) r
unfolding doubled
bits_turn n p j r s h e =
    let k : 8 - j ≡ suc (8 - (j + 1)) = omega arith in
    ap (doubled n p (8 - (j + 1))) e ∙ sym (ap (λ (i : ℕ). doubled n p i r) k)

pub bits_end : (n p j r : ℕ) → 8 ≤ j → doubled n p (8 - j) r ≡ r
unfolding doubled
bits_end n p j r h =
    let k : 8 - j ≡ 0 = omega arith in
    ap (λ (i : ℕ). doubled n p i r) k

-- ---- a message

-- bytes go in one after the other
unfoldable pub byte_steps : ℕ → ℕ → ℕ → List ℕ → ℕ
byte_steps n p r [] = r
byte_steps n p r (b ∷ bs) = byte_steps n p (byte_step n p r b) bs

pub bit_steps_append : (n p r : ℕ) (xs ys : List ℕ) → bit_steps n p r (xs ++ ys) ≡ bit_steps n p (bit_steps n p r xs) ys
unfolding bit_steps
bit_steps_append n p r [] ys = refl
bit_steps_append n p r (x ∷ xs) ys = bit_steps_append n p (bit_step n p r x) xs ys

message_steps : (n p r : ℕ) (m : List ℕ) → bit_steps n p r (message_bits m) ≡ byte_steps n p r m
unfolding message_bits bit_steps byte_steps byte_step
message_steps n p r [] = refl
message_steps n p r (b ∷ m) = bit_steps_append n p r (bits 8 b) (message_bits m) ∙ message_steps n p (bit_steps n p r (bits 8 b)) m

pub message_bits_lem : (m : List ℕ) → Bits (message_bits m)
unfolding message_bits
message_bits_lem [] = tt
message_bits_lem (b ∷ m) = append_bits (bits 8 b) (message_bits m) (bits_are_bits 8 b) (message_bits_lem m)

pub zeros_bits : (n : ℕ) → Bits (zeros n)
zeros_bits zero = tt
zeros_bits (suc n) = (lit< tt, zeros_bits n)

zeros_number : (n : ℕ) → number (zeros n) ≡ 0
unfolding number
zeros_number zero = refl
zeros_number (suc n) = ap₂ (λ (x y : ℕ). x + y) (zero-mul (2 ^ length (zeros n))) (zeros_number n)

module _ (k p : ℕ) (degree : p / 2 ^ suc k ≡ 1) where
  -- the register, begun at 0, holds the check sum of the message: bit by bit, and byte by byte
  pub crc_bits : (m : List ℕ) → crc (suc k) p m ≡ bit_steps (suc k) p 0 (message_bits m)
  unfolding crc
  crc_bits m =
      ap number (check_feed times (bits (suc k) p) (message_bits m) k (bits_length (suc k) p))
      ∙ feed_number k p degree (message_bits m) (zeros (suc k)) (zeros_length (suc k)) (zeros_bits (suc k)) (message_bits_lem m)
      ∙ ap (λ (r : ℕ). bit_steps (suc k) p r (message_bits m)) (zeros_number (suc k))

  pub crc_bytes : (m : List ℕ) → crc (suc k) p m ≡ byte_steps (suc k) p 0 m
  crc_bytes m = crc_bits m ∙ message_steps (suc k) p 0 m

  pub crc_lt : (m : List ℕ) → crc (suc k) p m < 2 ^ suc k
  crc_lt m = subst (λ (x : ℕ). x < 2 ^ suc k) (sym (crc_bits m)) (bit_steps_lt k p degree (message_bits m) 0 (message_bits_lem m) (pow_pos (suc k)))

pub crc_16_lt : (m : List ℕ) → crc_16 m < 65536
unfolding crc_16
crc_16_lt = crc_lt 15 crc16_polynomial refl

-- ---- a loop over a message: a turn, from the register r to s, and the end

pub bytes_turn : (n p r s : ℕ) (m : List ℕ) (i : ℕ) → i < length m → s ≡ byte_step n p r (get_or m i 0)
    → byte_steps n p s (drop (i + 1) m) ≡ byte_steps n p r (drop i m)
unfolding byte_steps
bytes_turn n p r s m i h e = ap₂ (λ (s j : ℕ). byte_steps n p s (drop j m)) e (add-one i) ∙ sym (ap (byte_steps n p r) (drop-cons m i 0 h))

pub bytes_end : (n p r : ℕ) (m : List ℕ) (i : ℕ) → length m ≤ i → byte_steps n p r (drop i m) ≡ r
unfolding byte_steps
bytes_end n p r m i h = ap (byte_steps n p r) (drop_of_length-le m h)
