-- The laws of the field of 256 elements. Each keeps sums in each variable, so it is computed at 1, 2, 4, .., 128 alone (`Basis`).
use mathlib.Core.Path.{◌≡◌, refl, sym, ap, ap₂, ◌∙◌}
use mathlib.Core.Bool.{Bool}
use Prim.Native.Nat.{ℕ, zero, suc, ◌+◌, ◌*◌, ◌/◌, ◌%◌, ◌^◌, ◌<◌}
use native.Mathlib.Nat.{mod-lt, zero-mul, one-mul, zero-add, suc-add}
use native.Mathlib.Numerals.{add-one}
use lib.Dec.{T, eqb, eqb→eq, lit<}
use lib.Bits.{bit_xor, xor_lt, xor_mod}
use Rattle.division.specs.Doubling.{twice}
use Rattle.field.specs.Field.{double, power, sum_over, times}
use Rattle.basics.proofs.Xor.{bit_mul_lt, xor_half, xor_cross, xor_bit_mul, bit_cases}
use Rattle.basics.specs.Lists.{all_below}
use Rattle.basics.proofs.Tests.{below}
use Rattle.division.proofs.Basis.{Additive, agree, additive_zero}
use Rattle.field.proofs.Double.{double_xor, double_lt}

-- ---- sums

bit_mul_xor : (u b c : ℕ) → u < 2 → u * bit_xor b c ≡ bit_xor (u * b) (u * c)
bit_mul_xor u b c hu =
    bit_cases (λ u. u * bit_xor b c ≡ bit_xor (u * b) (u * c))
    (zero-mul (bit_xor b c) ∙ sym (ap₂ bit_xor (zero-mul b) (zero-mul c)))
    (one-mul (bit_xor b c) ∙ sym (ap₂ bit_xor (one-mul b) (one-mul c))) u hu

sum_xor_left : (n a c b : ℕ) → sum_over n (bit_xor a c) b ≡ bit_xor (sum_over n a b) (sum_over n c b)
unfolding sum_over
sum_xor_left zero a c b = refl
sum_xor_left (suc n) a c b =
    ap₂ bit_xor
    (ap (λ (x : ℕ). x * b) (xor_mod a c 1) ∙ xor_bit_mul (a % 2) (c % 2) b (mod-lt a (lit< tt)) (mod-lt c (lit< tt)))
    (ap (λ (x : ℕ). sum_over n x (double b)) (xor_half a c) ∙ sum_xor_left n (a / 2) (c / 2) (double b))
    ∙ xor_cross (a % 2 * b) (c % 2 * b) (sum_over n (a / 2) (double b)) (sum_over n (c / 2) (double b))

sum_xor_right : (n a b c : ℕ) → b < 256 → c < 256 → sum_over n a (bit_xor b c) ≡ bit_xor (sum_over n a b) (sum_over n a c)
unfolding sum_over
sum_xor_right zero a b c hb hc = refl
sum_xor_right (suc n) a b c hb hc =
    ap₂ bit_xor (bit_mul_xor (a % 2) b c (mod-lt a (lit< tt)))
    (ap (sum_over n (a / 2)) (double_xor b c hb hc) ∙ sum_xor_right n (a / 2) (double b) (double c) (double_lt b hb) (double_lt c hc))
    ∙ xor_cross (a % 2 * b) (a % 2 * c) (sum_over n (a / 2) (double b)) (sum_over n (a / 2) (double c))

pub sum_lt : (n a b : ℕ) → b < 256 → sum_over n a b < 256
unfolding sum_over
sum_lt zero a b h = lit< tt
sum_lt (suc n) a b h =
    xor_lt 8 (a % 2 * b) (sum_over n (a / 2) (double b)) (bit_mul_lt (a % 2) b 256 (mod-lt a (lit< tt)) h)
    (sum_lt n (a / 2) (double b) (double_lt b h))

pub times_xor_left : (a c b : ℕ) → times (bit_xor a c) b ≡ bit_xor (times a b) (times c b)
unfolding times
times_xor_left = sum_xor_left 8

pub times_xor_right : (a b c : ℕ) → b < 256 → c < 256 → times a (bit_xor b c) ≡ bit_xor (times a b) (times a c)
unfolding times
times_xor_right = sum_xor_right 8

pub times_lt : (a b : ℕ) → b < 256 → times a b < 256
unfolding times
times_lt = sum_lt 8

left : (b : ℕ) → Additive 8 (λ a. times a b)
left b a c ha hc = times_xor_left a c b

right : (a : ℕ) → Additive 8 (times a)
right a b c hb hc = times_xor_right a b c hb hc

-- ---- the laws at 1, 2, 4, .., 128, computed

comm_test : ℕ → ℕ → Bool
comm_test i j = eqb (times (2 ^ i) (2 ^ j)) (times (2 ^ j) (2 ^ i))

comm_tests : T (all_below 8 (λ i. all_below 8 (λ j. comm_test i j)))
unfolding comm_test times sum_over double twice
comm_tests = tt

assoc_test : ℕ → ℕ → ℕ → Bool
assoc_test i j k = eqb (times (times (2 ^ i) (2 ^ j)) (2 ^ k)) (times (2 ^ i) (times (2 ^ j) (2 ^ k)))

assoc_tests : T (all_below 8 (λ i. all_below 8 (λ j. all_below 8 (λ k. assoc_test i j k))))
unfolding assoc_test times sum_over double twice
assoc_tests = tt

one_test : ℕ → Bool
one_test j = eqb (times 1 (2 ^ j)) (2 ^ j)

one_tests : T (all_below 8 one_test)
unfolding one_test times sum_over double twice
one_tests = tt

two_test : ℕ → Bool
two_test j = eqb (times 2 (2 ^ j)) (double (2 ^ j))

two_tests : T (all_below 8 two_test)
unfolding two_test times sum_over double twice
two_tests = tt

-- ---- the laws

comm_basis : (i j : ℕ) → i < 8 → j < 8 → times (2 ^ i) (2 ^ j) ≡ times (2 ^ j) (2 ^ i)
unfolding comm_test
comm_basis i j hi hj =
    let at_i = below 8 (λ i. all_below 8 (λ j. comm_test i j)) comm_tests i hi in
    eqb→eq (times (2 ^ i) (2 ^ j)) (times (2 ^ j) (2 ^ i)) (below 8 (comm_test i) at_i j hj)

pub times_comm : (a b : ℕ) → a < 256 → b < 256 → times a b ≡ times b a
times_comm a b ha hb =
    agree 8 (λ x. times x b) (λ x. times b x) (left b) (right b)
    (λ i hi. agree 8 (λ y. times (2 ^ i) y) (λ y. times y (2 ^ i)) (right (2 ^ i)) (left (2 ^ i)) (λ j hj. comm_basis i j hi hj) b hb)
    a ha

assoc_basis : (i j k : ℕ) → i < 8 → j < 8 → k < 8 → times (times (2 ^ i) (2 ^ j)) (2 ^ k) ≡ times (2 ^ i) (times (2 ^ j) (2 ^ k))
unfolding assoc_test
assoc_basis i j k hi hj hk =
    let at_i = below 8 (λ i. all_below 8 (λ j. all_below 8 (λ k. assoc_test i j k))) assoc_tests i hi in
    let at_j = below 8 (λ j. all_below 8 (λ k. assoc_test i j k)) at_i j hj in
    eqb→eq (times (times (2 ^ i) (2 ^ j)) (2 ^ k)) (times (2 ^ i) (times (2 ^ j) (2 ^ k))) (below 8 (assoc_test i j) at_j k hk)

-- (x y) z and x (y z), as functions of each variable, keep sums
assoc₁ : (y z : ℕ) → Additive 8 (λ x. times (times x y) z)
assoc₁ y z a c ha hc = ap (λ (x : ℕ). times x z) (times_xor_left a c y) ∙ times_xor_left (times a y) (times c y) z

assoc₂ : (x z : ℕ) → Additive 8 (λ y. times (times x y) z)
assoc₂ x z a c ha hc = ap (λ (y : ℕ). times y z) (times_xor_right x a c ha hc) ∙ times_xor_left (times x a) (times x c) z

assoc₃ : (x z : ℕ) → z < 256 → Additive 8 (λ y. times x (times y z))
assoc₃ x z hz a c ha hc = ap (times x) (times_xor_left a c z) ∙ times_xor_right x (times a z) (times c z) (times_lt a z hz) (times_lt c z hz)

assoc₄ : (x y : ℕ) → Additive 8 (λ z. times x (times y z))
assoc₄ x y a c ha hc = ap (times x) (times_xor_right y a c ha hc) ∙ times_xor_right x (times y a) (times y c) (times_lt y a ha) (times_lt y c hc)

pub times_assoc : (a b c : ℕ) → a < 256 → b < 256 → c < 256 → times (times a b) c ≡ times a (times b c)
times_assoc a b c ha hb hc =
    agree 8 (λ x. times (times x b) c) (λ x. times x (times b c)) (assoc₁ b c) (left (times b c))
    (λ i hi. agree 8 (λ y. times (times (2 ^ i) y) c) (λ y. times (2 ^ i) (times y c)) (assoc₂ (2 ^ i) c) (assoc₃ (2 ^ i) c hc)
    (λ j hj. agree 8 (λ z. times (times (2 ^ i) (2 ^ j)) z) (λ z. times (2 ^ i) (times (2 ^ j) z)) (right (times (2 ^ i) (2 ^ j))) (assoc₄ (2 ^ i) (2 ^ j))
    (λ k hk. assoc_basis i j k hi hj hk) c hc)
    b hb)
    a ha

pub one_times : (b : ℕ) → b < 256 → times 1 b ≡ b
unfolding one_test
one_times = agree 8 (times 1) (λ b. b) (right 1) (λ a c ha hc. refl) (λ j hj. eqb→eq (times 1 (2 ^ j)) (2 ^ j) (below 8 one_test one_tests j hj))

pub times_one : (a : ℕ) → a < 256 → times a 1 ≡ a
times_one a h = times_comm a 1 h (lit< tt) ∙ one_times a h

pub two_times : (b : ℕ) → b < 256 → times 2 b ≡ double b
unfolding two_test
two_times = agree 8 (times 2) double (right 2) double_xor (λ j hj. eqb→eq (times 2 (2 ^ j)) (double (2 ^ j)) (below 8 two_test two_tests j hj))

pub zero_times : (b : ℕ) → times 0 b ≡ 0
zero_times b = additive_zero 8 (λ a. times a b) (left b)

pub times_zero : (a : ℕ) → times a 0 ≡ 0
times_zero a = additive_zero 8 (times a) (right a)

pub double_times : (a b : ℕ) → a < 256 → b < 256 → times (double a) b ≡ double (times a b)
double_times a b ha hb =
    ap (λ (x : ℕ). times x b) (sym (two_times a ha)) ∙ times_assoc 2 a b (lit< tt) ha hb ∙ two_times (times a b) (times_lt a b hb)

-- ---- powers

pub power_lt : (k : ℕ) → power k < 256
unfolding power
power_lt zero = lit< tt
power_lt (suc k) = double_lt (power k) (power_lt k)

pub power_next : (k : ℕ) → times 2 (power k) ≡ power (k + 1)
unfolding power
power_next k = two_times (power k) (power_lt k) ∙ ap power (sym (add-one k))

pub power_add : (i j : ℕ) → times (power i) (power j) ≡ power (i + j)
unfolding power
power_add zero j = one_times (power j) (power_lt j) ∙ ap power (sym (zero-add j))
power_add (suc i) j =
    double_times (power i) (power j) (power_lt i) (power_lt j) ∙ ap double (power_add i j) ∙ ap power (sym (suc-add i j))

-- the powers come round after 255
pub power_255 : power 255 ≡ 1
unfolding power double twice
power_255 = refl

pub power_round : (k : ℕ) → power (k + 255) ≡ power k
power_round k = sym (power_add k 255) ∙ ap (times (power k)) power_255 ∙ times_one (power k) (power_lt k)
