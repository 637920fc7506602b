-- A linear recurrence over GF(2) holds for every second element of the sequence too (its polynomial squared), and for numbers put together of two
-- sequences that follow it. So it holds for bytes and words of a bit sequence.
use mathlib.Core.Path.{◌≡◌, refl, sym, ap, ap₂, ◌∙◌}
use Prim.Native.Nat.{ℕ, zero, suc, ◌+◌, ◌*◌, ◌^◌, ◌<◌}
use native.Mathlib.Nat.{zero-mul, one-mul, mul-add, mul_assoc, mul_left_comm}
use native.Mathlib.Omega.{arith}
use lib.Bits.{bit_xor, xor_block, xor_lt}
use lib.Pow.{pow_pos}
use Rattle.basics.proofs.Xor.{bit_cases, bit_mul_lt, xor_assoc, xor_cancel, xor_cross}

-- the sum of f at the numbers below n
unfoldable pub total : ℕ → (ℕ → ℕ) → ℕ
total zero f = 0
total (suc n) f = bit_xor (f 0) (total n (λ i. f (suc i)))

-- v follows the recurrence with the coefficients t(0) to t(n - 1)
abbrev pub Follows : ℕ → (ℕ → ℕ) → (ℕ → ℕ) → Type 0
Follows n t v = (k : ℕ) → v (k + n) ≡ total n (λ i. t i * v (k + i))

abbrev pub Bits : (ℕ → ℕ) → Type 0
Bits t = (i : ℕ) → t i < 2

pub total_same : (n : ℕ) (f g : ℕ → ℕ) → ((i : ℕ) → f i ≡ g i) → total n f ≡ total n g
unfolding total
total_same zero f g e = refl
total_same (suc n) f g e = ap₂ bit_xor (e 0) (total_same n (λ i. f (suc i)) (λ i. g (suc i)) (λ i. e (suc i)))

total_plus : (n : ℕ) (f g : ℕ → ℕ) → total n (λ i. bit_xor (f i) (g i)) ≡ bit_xor (total n f) (total n g)
unfolding total
total_plus zero f g = refl
total_plus (suc n) f g =
    ap (bit_xor (bit_xor (f 0) (g 0))) (total_plus n (λ i. f (suc i)) (λ i. g (suc i)))
    ∙ xor_cross (f 0) (g 0) (total n (λ i. f (suc i))) (total n (λ i. g (suc i)))

pub total_zero : (n : ℕ) → total n (λ i. 0) ≡ 0
unfolding total
total_zero zero = refl
total_zero (suc n) = total_zero n

total_bit : (u n : ℕ) (f : ℕ → ℕ) → u < 2 → u * total n f ≡ total n (λ i. u * f i)
total_bit u n f h =
    bit_cases (λ (u : ℕ). u * total n f ≡ total n (λ i. u * f i))
    (zero-mul (total n f) ∙ sym (total_same n (λ i. 0 * f i) (λ i. 0) (λ i. zero-mul (f i)) ∙ total_zero n))
    (one-mul (total n f) ∙ sym (total_same n (λ i. 1 * f i) f (λ i. one-mul (f i)))) u h

-- a square that is the same both ways: only its diagonal is left
diagonal : (n : ℕ) (f : ℕ → ℕ → ℕ) → ((i j : ℕ) → f i j ≡ f j i) → total n (λ i. total n (λ j. f i j)) ≡ total n (λ i. f i i)
unfolding total
diagonal zero f s = refl
diagonal (suc n) f s =
    let a = total n (λ j. f 0 (suc j)) in
    let d = total n (λ i. total n (λ j. f (suc i) (suc j))) in
    let b : total n (λ i. f (suc i) 0) ≡ a = total_same n (λ i. f (suc i) 0) (λ j. f 0 (suc j)) (λ i. s (suc i) 0) in
    ap (bit_xor (bit_xor (f 0 0) a)) (total_plus n (λ i. f (suc i) 0) (λ i. total n (λ j. f (suc i) (suc j))) ∙ ap (λ (x : ℕ). bit_xor x d) b)
    ∙ xor_assoc (f 0 0) a (bit_xor a d) ∙ ap (bit_xor (f 0 0)) (xor_cancel a d ∙ diagonal n (λ i j. f (suc i) (suc j)) (λ i j. s (suc i) (suc j)))

bit_twice : (u x : ℕ) → u < 2 → u * (u * x) ≡ u * x
bit_twice u x h = bit_cases (λ (u : ℕ). u * (u * x) ≡ u * x) (zero-mul (0 * x) ∙ sym (zero-mul x)) (one-mul (1 * x)) u h

-- the polynomial squared
pub squared : (n : ℕ) (t v : ℕ → ℕ) → Bits t → Follows n t v → (k : ℕ) → v (k + n + n) ≡ total n (λ i. t i * v (k + i + i))
squared n t v b f k =
    f (k + n)
    ∙ total_same n (λ i. t i * v (k + n + i)) (λ i. total n (λ j. t i * (t j * v (k + i + j))))
    (λ i.
    let e : k + n + i ≡ k + i + n = omega arith in
    ap (λ (m : ℕ). t i * v m) e ∙ ap (λ (x : ℕ). t i * x) (f (k + i)) ∙ total_bit (t i) n (λ j. t j * v (k + i + j)) (b i))
    ∙ diagonal n (λ i j. t i * (t j * v (k + i + j)))
    (λ i j.
    let e : k + i + j ≡ k + j + i = omega arith in
    mul_left_comm (t i) (t j) (v (k + i + j)) ∙ ap (λ (m : ℕ). t j * (t i * v m)) e)
    ∙ total_same n (λ i. t i * (t i * v (k + i + i))) (λ i. t i * v (k + i + i)) (λ i. bit_twice (t i) (v (k + i + i)) (b i))

-- every second element follows the same recurrence
pub every_second : (n r : ℕ) (t v : ℕ → ℕ) → Bits t → Follows n t v → Follows n t (λ k. v (r + 2 * k))
every_second n r t v b f k =
    let e : r + 2 * (k + n) ≡ r + 2 * k + n + n = omega arith in
    ap v e ∙ squared n t v b f (r + 2 * k)
    ∙ total_same n (λ i. t i * v (r + 2 * k + i + i)) (λ i. t i * v (r + 2 * (k + i)))
    (λ i. let e : r + 2 * k + i + i ≡ r + 2 * (k + i) = omega arith in ap (λ (m : ℕ). t i * v m) e)

total_lt : (w n : ℕ) (g : ℕ → ℕ) → ((i : ℕ) → g i < 2 ^ w) → total n g < 2 ^ w
unfolding total
total_lt w zero g h = pow_pos w
total_lt w (suc n) g h = xor_lt w (g 0) (total n (λ i. g (suc i))) (h 0) (total_lt w n (λ i. g (suc i)) (λ i. h (suc i)))

-- two numbers in one: a above, b of w bits below
total_pair : (w n : ℕ) (f g : ℕ → ℕ) → ((i : ℕ) → g i < 2 ^ w) → total n (λ i. f i * 2 ^ w + g i) ≡ total n f * 2 ^ w + total n g
unfolding total
total_pair w zero f g h = sym (ap (λ (x : ℕ). x + 0) (zero-mul (2 ^ w)))
total_pair w (suc n) f g h =
    ap (bit_xor (f 0 * 2 ^ w + g 0)) (total_pair w n (λ i. f (suc i)) (λ i. g (suc i)) (λ i. h (suc i)))
    ∙ xor_block w (f 0) (total n (λ i. f (suc i))) (g 0) (total n (λ i. g (suc i))) (h 0) (total_lt w n (λ i. g (suc i)) (λ i. h (suc i)))

pair_times : (u a b m : ℕ) → u * (a * m + b) ≡ u * a * m + u * b
pair_times u a b m = mul-add u (a * m) b ∙ ap (λ (x : ℕ). x + u * b) (sym (mul_assoc u a m))

pub together : (w n : ℕ) (t a b : ℕ → ℕ) → Bits t → ((i : ℕ) → b i < 2 ^ w) → Follows n t a → Follows n t b → Follows n t (λ k. a k * 2 ^ w + b k)
together w n t a b bt hb fa fb k =
    ap₂ (λ (x y : ℕ). x * 2 ^ w + y) (fa k) (fb k)
    ∙ sym (total_same n (λ i. t i * (a (k + i) * 2 ^ w + b (k + i))) (λ i. t i * a (k + i) * 2 ^ w + t i * b (k + i))
    (λ i. pair_times (t i) (a (k + i)) (b (k + i)) (2 ^ w))
    ∙ total_pair w n (λ i. t i * a (k + i)) (λ i. t i * b (k + i)) (λ i. bit_mul_lt (t i) (b (k + i)) (2 ^ w) (bt i) (hb (k + i))))
