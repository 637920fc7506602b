-- The register of bits as a number: a step of long division is a doubling modulo the polynomial. The width is suc k, and p is a polynomial of that degree.
use mathlib.Core.Path.{◌≡◌, refl, sym, ap, ap₂, ◌∙◌, subst}
use mathlib.Core.List.{List, [], ◌∷◌, ◌++◌}
use Prim.Native.Nat.{ℕ, zero, suc, ◌+◌, ◌*◌, ◌/◌, ◌%◌, ◌^◌, ◌<◌}
use native.Mathlib.Nat.{suc_inj, suc-ne-zero, mod-lt, mod-one, pow-suc, zero-mul, one-mul, mul_assoc, mul_comm, add-mul, mul-add, add-zero, zero-add, mul-zero}
use native.Mathlib.Numerals.{add-one, one-add, sub-one}
use native.Mathlib.Omega.{arith}
use lib.Dec.{lit<}
use lib.Arith.{digits_lt}
use lib.Pow.{pow_pos, mod-pow-add, high, split, shl_lt}
use lib.Bits.{bit_xor, xor_lt, xor_block, xor_comm, xor_self, xor_zero_r}
use lib.ListN.{length, length-append}
use Rattle.basics.specs.Numbers.{bits, number}
use Rattle.division.specs.Doubling.{twice}
use Rattle.basics.proofs.Xor.{bit_mul_lt}
use Rattle.division.proofs.Doubling.{twice_lt}
use Rattle.division.specs.Division.{plus, scale}
use Rattle.division.specs.Register.{step, feed}
use Rattle.division.proofs.Register.{plus_length, scale_length, step_length}
use Rattle.crc.specs.Register.{bit_step, bit_steps}

-- the product of two bits
abbrev pub times : ℕ → ℕ → ℕ
times a b = a * b

-- each is 0 or 1
abbrev pub Bits : List ℕ → Type 0
Bits [] = Unit {0}
Bits (b ∷ bs) = (b < 2) × Bits bs

-- ---- a number and its bits

number_lt : (bs : List ℕ) → Bits bs → number bs < 2 ^ length bs
unfolding number
number_lt [] h = lit< tt
number_lt (b ∷ bs) h =
    subst (λ (x : ℕ). b * 2 ^ length bs + number bs < x) (mul_comm 2 (2 ^ length bs) ∙ sym (pow-suc 2 (length bs)))
    (digits_lt h.0 (number_lt bs h.1))

pub bits_length : (n x : ℕ) → length (bits n x) ≡ n
unfolding bits
bits_length zero x = refl
bits_length (suc n) x = ap suc (bits_length n _)

pub bits_are_bits : (n x : ℕ) → Bits (bits n x)
unfolding bits
bits_are_bits zero x = tt
bits_are_bits (suc n) x = (mod-lt _ (lit< tt), bits_are_bits n _)

number_of_bits : (n x : ℕ) → number (bits n x) ≡ x % 2 ^ n
unfolding number bits
number_of_bits zero x = sym (mod-one x)
number_of_bits (suc n) x =
    ap₂ (λ (l y : ℕ). x / 2 ^ n % 2 * 2 ^ l + y) (bits_length n x) (number_of_bits n x)
    ∙ sym (mod-pow-add x 1 n) ∙ ap (λ (k : ℕ). x % 2 ^ k) (one-add n)

-- ---- sums, multiples, and a zero behind

plus_bits : (xs ys : List ℕ) → Bits xs → Bits ys → Bits (plus xs ys)
unfolding plus
plus_bits [] ys h k = k
plus_bits (x ∷ xs) [] h k = h
plus_bits (x ∷ xs) (y ∷ ys) h k = (xor_lt 1 x y h.0 k.0, plus_bits xs ys h.1 k.1)

scale_bits : (c : ℕ) (xs : List ℕ) → c < 2 → Bits xs → Bits (scale times c xs)
unfolding scale
scale_bits c [] hc h = tt
scale_bits c (x ∷ xs) hc h = (bit_mul_lt c x 2 hc h.0, scale_bits c xs hc h.1)

pub append_bits : (xs ys : List ℕ) → Bits xs → Bits ys → Bits (xs ++ ys)
append_bits [] ys h k = k
append_bits (x ∷ xs) ys h k = (h.0, append_bits xs ys h.1 k)

zero_behind_bits : (xs : List ℕ) → Bits xs → Bits (xs ++ 0 ∷ [])
zero_behind_bits xs h = append_bits xs (0 ∷ []) h (lit< tt, tt)

number_plus : (xs ys : List ℕ) → length xs ≡ length ys → Bits xs → Bits ys → number (plus xs ys) ≡ bit_xor (number xs) (number ys)
unfolding number plus
number_plus [] ys e h k = refl
number_plus (x ∷ xs) [] e h k = absurd (suc-ne-zero (length xs) e)
number_plus (x ∷ xs) (y ∷ ys) e h k =
    let l : length xs ≡ length ys = suc_inj e in
    ap₂ (λ (n z : ℕ). bit_xor x y * 2 ^ n + z) (plus_length xs ys (length ys) l refl) (number_plus xs ys l h.1 k.1)
    ∙ sym (xor_block (length ys) x y (number xs) (number ys) (subst (λ (n : ℕ). number xs < 2 ^ n) l (number_lt xs h.1)) (number_lt ys k.1))
    ∙ ap (λ (n : ℕ). bit_xor (x * 2 ^ n + number xs) (y * 2 ^ length ys + number ys)) (sym l)

number_scale : (c : ℕ) (xs : List ℕ) → number (scale times c xs) ≡ c * number xs
unfolding number scale
number_scale c [] = sym (mul-zero c)
number_scale c (x ∷ xs) =
    ap₂ (λ (n z : ℕ). c * x * 2 ^ n + z) (scale_length times c xs) (number_scale c xs)
    ∙ ap (λ (z : ℕ). z + c * number xs) (mul_assoc c x (2 ^ length xs))
    ∙ sym (mul-add c (x * 2 ^ length xs) (number xs))

number_zero_behind : (xs : List ℕ) → number (xs ++ 0 ∷ []) ≡ number xs * 2
unfolding number
number_zero_behind [] = refl
number_zero_behind (x ∷ xs) =
    ap₂ (λ (n z : ℕ). x * 2 ^ n + z) (length-append xs (0 ∷ []) ∙ add-one (length xs)) (number_zero_behind xs)
    ∙ ap (λ (z : ℕ). z + number xs * 2) (ap (λ (z : ℕ). x * z) (pow-suc 2 (length xs)) ∙ sym (mul_assoc x (2 ^ length xs) 2))
    ∙ sym (add-mul (x * 2 ^ length xs) (number xs) 2)

-- ---- a step

-- the new bit goes to place k, the top of the register
pub bit_step_lem : (k p r b : ℕ) → bit_step (suc k) p r b ≡ twice (suc k) p (bit_xor r (b * 2 ^ k))
unfolding bit_step
bit_step_lem k p r b = ap (λ (n : ℕ). twice (suc k) p (bit_xor r (b * 2 ^ n))) (sub-one (suc k))

pub with_bit_lt : (k r b : ℕ) → r < 2 ^ suc k → b < 2 → bit_xor r (b * 2 ^ k) < 2 ^ suc k
with_bit_lt k r b h hb = xor_lt (suc k) r (b * 2 ^ k) h (subst (λ (x : ℕ). b * 2 ^ k < 2 ^ x) (one-add k) (shl_lt 1 k hb))

module _ (k p : ℕ) (degree : p / 2 ^ suc k ≡ 1) where
  -- doubling a number whose top bit is c and whose other bits are t
  twice_parts : (c t : ℕ) → c < 2 → t < 2 ^ k → twice (suc k) p (c * 2 ^ k + t) ≡ bit_xor (c * (p % 2 ^ suc k)) (t * 2)
  unfolding twice
  twice_parts c t hc ht =
      let n = suc k in
      let low = c * (p % 2 ^ n) in
      let t2 : t * 2 < 2 ^ n = subst (λ (x : ℕ). t * 2 < x) (sym (pow-suc 2 k)) (omega arith) in
      let dividend : (c * 2 ^ k + t) * 2 ≡ c * 2 ^ n + t * 2 =
      add-mul (c * 2 ^ k) t 2 ∙ ap (λ (x : ℕ). x + t * 2) (mul_assoc c (2 ^ k) 2 ∙ ap (λ (x : ℕ). c * x) (sym (pow-suc 2 k))) in
      let divisor : p ≡ 2 ^ n + p % 2 ^ n =
      sym (split p n) ∙ ap (λ (x : ℕ). x * 2 ^ n + p % 2 ^ n) degree ∙ ap (λ (x : ℕ). x + p % 2 ^ n) (one-mul (2 ^ n)) in
      ap (λ (x : ℕ). bit_xor x (x / 2 ^ n * p)) dividend
      ∙ ap (λ (x : ℕ). bit_xor (c * 2 ^ n + t * 2) (x * p)) (high c n t2)
      ∙ ap (bit_xor (c * 2 ^ n + t * 2)) (ap (λ (x : ℕ). c * x) divisor ∙ mul-add c (2 ^ n) (p % 2 ^ n))
      ∙ xor_block n c c (t * 2) low t2 (bit_mul_lt c (p % 2 ^ n) (2 ^ n) hc (mod-lt p (pow_pos n)))
      ∙ ap (λ (x : ℕ). x * 2 ^ n + bit_xor (t * 2) low) (xor_self c)
      ∙ ap (λ (x : ℕ). x + bit_xor (t * 2) low) (zero-mul (2 ^ n))
      ∙ zero-add (bit_xor (t * 2) low)
      ∙ xor_comm (t * 2) low

  step_number : (s : List ℕ) (d : ℕ) → length s ≡ suc k → Bits s → d < 2 → number (step times (bits (suc k) p) s d) ≡ bit_step (suc k) p (number s) d
  unfolding number step
  step_number [] d e h hd = absurd (suc-ne-zero k (sym e))
  step_number (x ∷ t) d e h hd =
      let c = bit_xor x d in
      let hc : c < 2 = xor_lt 1 x d h.0 hd in
      let l : length t ≡ k = suc_inj e in
      let ht : number t < 2 ^ k = subst (λ (n : ℕ). number t < 2 ^ n) l (number_lt t h.1) in
      number_plus (scale times c (bits (suc k) p)) (t ++ 0 ∷ [])
      (scale_length times c (bits (suc k) p) ∙ bits_length (suc k) p ∙ ap suc (sym l) ∙ sym (length-append t (0 ∷ []) ∙ add-one (length t)))
      (scale_bits c (bits (suc k) p) hc (bits_are_bits (suc k) p)) (zero_behind_bits t h.1)
      ∙ ap₂ bit_xor (number_scale c (bits (suc k) p) ∙ ap (λ (y : ℕ). c * y) (number_of_bits (suc k) p)) (number_zero_behind t)
      ∙ sym (twice_parts c (number t) hc ht)
      ∙ ap (λ (y : ℕ). twice (suc k) p (c * 2 ^ k + y)) (sym (xor_zero_r (number t)))
      ∙ ap (twice (suc k) p) (sym (xor_block k x d (number t) 0 ht (pow_pos k)))
      ∙ ap₂ (λ (n y : ℕ). twice (suc k) p (bit_xor (x * 2 ^ n + number t) y)) (sym l) (add-zero (d * 2 ^ k))
      ∙ sym (bit_step_lem k p (number (x ∷ t)) d)

  step_bits : (s : List ℕ) (d : ℕ) → Bits s → d < 2 → Bits (step times (bits (suc k) p) s d)
  unfolding step
  step_bits [] d h hd = tt
  step_bits (x ∷ t) d h hd =
      plus_bits (scale times (bit_xor x d) (bits (suc k) p)) (t ++ 0 ∷ [])
      (scale_bits (bit_xor x d) (bits (suc k) p) (xor_lt 1 x d h.0 hd) (bits_are_bits (suc k) p)) (zero_behind_bits t h.1)

  pub feed_number : (m s : List ℕ) → length s ≡ suc k → Bits s → Bits m → number (feed times (bits (suc k) p) s m) ≡ bit_steps (suc k) p (number s) m
  unfolding feed bit_steps
  feed_number [] s e h hm = refl
  feed_number (d ∷ m) s e h hm =
      feed_number m (step times (bits (suc k) p) s d)
      (step_length times (bits (suc k) p) s d (e ∙ sym (bits_length (suc k) p)) ∙ bits_length (suc k) p)
      (step_bits s d h hm.0) hm.1
      ∙ ap (λ (r : ℕ). bit_steps (suc k) p r m) (step_number s d e h hm.0)

  -- the register keeps to its bits
  pub bit_step_lt : (r b : ℕ) → r < 2 ^ suc k → b < 2 → bit_step (suc k) p r b < 2 ^ suc k
  bit_step_lt r b h hb =
      subst (λ (x : ℕ). x < 2 ^ suc k) (sym (bit_step_lem k p r b)) (twice_lt (suc k) p (bit_xor r (b * 2 ^ k)) degree (with_bit_lt k r b h hb))

  pub bit_steps_lt : (bs : List ℕ) (r : ℕ) → Bits bs → r < 2 ^ suc k → bit_steps (suc k) p r bs < 2 ^ suc k
  unfolding bit_steps
  bit_steps_lt [] r hb h = h
  bit_steps_lt (b ∷ bs) r hb h = bit_steps_lt bs (bit_step (suc k) p r b) hb.1 (bit_step_lt r b h hb.0)
