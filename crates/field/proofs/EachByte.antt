-- Laws of a function done to each byte of a number; from them the product of several bytes, a bit of the factor at a time.
use mathlib.Core.Path.{◌≡◌, refl, sym, ap, ap₂, ◌∙◌}
use Prim.Native.Nat.{ℕ, zero, suc, ◌+◌, ◌-◌, ◌*◌, ◌/◌, ◌%◌, ◌^◌, ◌≤◌, ◌<◌}
use native.Mathlib.Nat.{zero-add, mod-lt, pow-suc, not-suc-le-zero, le_of_suc-le-suc}
use native.Mathlib.Omega.{arith}
use lib.Dec.{lit<}
use lib.Arith.{le-zero}
use lib.Bits.{bit_xor, xor_block, xor_zero_r}
use Rattle.basics.proofs.Numbers.{byte_at}
use Rattle.basics.proofs.Xor.{bit_cases, bit_mul_lt, xor_assoc}
use Rattle.field.specs.Field.{double, sum_over, times}
use Rattle.field.specs.EachByte.{each_byte}
use Rattle.field.proofs.Double.{double_lt}
use Rattle.field.proofs.Laws.{sum_lt}

abbrev pub KeepsBytes : (ℕ → ℕ) → Type 0
KeepsBytes f = (b : ℕ) → b < 256 → f b < 256

byte : (x : ℕ) → x % 256 < 256
byte x = mod-lt x (lit< tt)

pub each_lt : (f : ℕ → ℕ) → KeepsBytes f → (n x : ℕ) → each_byte f n x < 256 ^ n
unfolding each_byte
each_lt f hf zero x = lit< tt
each_lt f hf (suc n) x = omega (arith, each_lt f hf n (x / 256), hf (x % 256) (byte x), pow-suc 256 n)

-- a number of one byte
pub each_one : (f : ℕ → ℕ) (x : ℕ) → x < 256 → each_byte f 1 x ≡ f x
unfolding each_byte
each_one f x h = let own : x % 256 ≡ x = omega arith in zero-add (f (x % 256)) ∙ ap f own

-- ---- the lowest byte, and those above it

module _ (f : ℕ → ℕ) (hf : KeepsBytes f) (n x : ℕ) where
  each_low : each_byte f (suc n) x % 256 ≡ f (x % 256)
  unfolding each_byte
  each_low = omega (arith, hf (x % 256) (byte x))

  each_high : each_byte f (suc n) x / 256 ≡ each_byte f n (x / 256)
  unfolding each_byte
  each_high = omega (arith, hf (x % 256) (byte x))

-- byte k of the result is f of byte k
pub each_at : (f : ℕ → ℕ) → KeepsBytes f → (n k x : ℕ) → k < n → byte_at k (each_byte f n x) ≡ f (byte_at k x)
each_at f hf zero k x h = absurd (not-suc-le-zero h)
each_at f hf (suc n) zero x h = each_low f hf n x
each_at f hf (suc n) (suc k) x h = ap (byte_at k) (each_high f hf n x) ∙ each_at f hf n k (x / 256) (le_of_suc-le-suc h)

-- ---- the same function, sums of functions, one function after another

each_same : (f g : ℕ → ℕ) → ((b : ℕ) → f b ≡ g b) → (n x : ℕ) → each_byte f n x ≡ each_byte g n x
unfolding each_byte
each_same f g e zero x = refl
each_same f g e (suc n) x = ap₂ (λ (a b : ℕ). a * 2 ^ 8 + b) (each_same f g e n (x / 256)) (e (x % 256))

each_plus : (f g : ℕ → ℕ) → KeepsBytes f → KeepsBytes g → (n x : ℕ)
    → each_byte (λ b. bit_xor (f b) (g b)) n x ≡ bit_xor (each_byte f n x) (each_byte g n x)
unfolding each_byte
each_plus f g hf hg zero x = refl
each_plus f g hf hg (suc n) x =
    ap (λ (a : ℕ). a * 2 ^ 8 + bit_xor (f (x % 256)) (g (x % 256))) (each_plus f g hf hg n (x / 256))
    ∙ sym (xor_block 8 (each_byte f n (x / 256)) (each_byte g n (x / 256)) (f (x % 256)) (g (x % 256)) (hf _ (byte x)) (hg _ (byte x)))

each_each : (f g : ℕ → ℕ) → KeepsBytes g → (n x : ℕ) → each_byte f n (each_byte g n x) ≡ each_byte (λ b. f (g b)) n x
unfolding each_byte
each_each f g hg zero x = refl
each_each f g hg (suc n) x =
    ap₂ (λ (a b : ℕ). a * 2 ^ 8 + b) (ap (each_byte f n) (each_high g hg n x) ∙ each_each f g hg n (x / 256)) (ap f (each_low g hg n x))

-- each byte, as it is or taken away
each_id : (n x : ℕ) → x < 256 ^ n → each_byte (λ b. b) n x ≡ x
unfolding each_byte
each_id zero x h = omega arith
each_id (suc n) x h = let p = pow-suc 256 n in let ih = each_id n (x / 256) (omega (arith, p)) in omega (arith, ih)

each_zero : (n x : ℕ) → each_byte (λ b. 0) n x ≡ 0
unfolding each_byte
each_zero zero x = refl
each_zero (suc n) x = omega (arith, each_zero n (x / 256))

each_bit : (u n x : ℕ) → u < 2 → x < 256 ^ n → each_byte (λ b. u * b) n x ≡ u * x
each_bit u n x hu h =
    bit_cases (λ (u : ℕ). each_byte (λ b. u * b) n x ≡ u * x)
    (each_same (λ b. 0 * b) (λ b. 0) (λ b. omega arith) n x ∙ each_zero n x ∙ omega arith)
    (each_same (λ b. 1 * b) (λ b. b) (λ b. omega arith) n x ∙ each_id n x h ∙ omega arith) u hu

-- ---- the product of m bytes: n bits of the factor are left

each_sum : (m n a y : ℕ) → y < 256 ^ m
    → bit_xor (a % 2 * y) (each_byte (sum_over n (a / 2)) m (each_byte double m y)) ≡ each_byte (sum_over (suc n) a) m y
unfolding sum_over
each_sum m n a y h =
    let bit = mod-lt a (lit< tt) in
    ap₂ bit_xor (sym (each_bit (a % 2) m y bit h)) (each_each (sum_over n (a / 2)) double double_lt m y)
    ∙ sym (each_plus (λ b. a % 2 * b) (λ b. sum_over n (a / 2) (double b)) (λ b hb. bit_mul_lt (a % 2) b 256 bit hb)
    (λ b hb. sum_lt n (a / 2) (double b) (double_lt b hb)) m y)

pub product_start : (m sum a y : ℕ) → sum ≡ 0 → bit_xor sum (each_byte (sum_over 8 a) m y) ≡ each_byte (times a) m y
unfolding times
product_start m sum a y e = ap (λ (x : ℕ). bit_xor x (each_byte (sum_over 8 a) m y)) e

-- turn i of eight
pub product_turn : (m sum a y n : ℕ) → y < 256 ^ m → 0 < n
    → bit_xor (bit_xor sum (a % 2 * y)) (each_byte (sum_over (n - 1) (a / 2)) m (each_byte double m y)) ≡ bit_xor sum (each_byte (sum_over n a) m y)
product_turn m sum a y n hy h =
    let k = n - 1 in
    let back : suc k ≡ n = omega arith in
    xor_assoc sum (a % 2 * y) (each_byte (sum_over k (a / 2)) m (each_byte double m y))
    ∙ ap (bit_xor sum) (each_sum m k a y hy ∙ ap (λ (j : ℕ). each_byte (sum_over j a) m y) back)

pub product_end : (m sum a y n : ℕ) → n ≤ 0 → bit_xor sum (each_byte (sum_over n a) m y) ≡ sum
unfolding sum_over
product_end m sum a y n h =
    ap (λ (k : ℕ). bit_xor sum (each_byte (sum_over k a) m y)) (le-zero h) ∙ ap (bit_xor sum) (each_zero m y) ∙ xor_zero_r sum
