-- A word as a sum of terms, one for each place: places have different locators, and a place can be taken out.
use mathlib.Core.Path.{◌≡◌, refl, sym, ap, ap₂, ◌∙◌, subst}
use mathlib.Core.Bool.{Bool, not}
use mathlib.Core.List.{List, [], ◌∷◌, ◌++◌}
use Prim.Native.Nat.{ℕ, zero, suc, ◌+◌, ◌*◌, ◌/◌, ◌%◌, ◌≤◌, ◌<◌}
use native.Mathlib.Nat.{zero-lt-suc, lt_irrefl, add-zero, add_comm, add_assoc, mul-add, mul-suc, add-mul, suc-mul, zero-mul, mod-add-div', mod-lt}
use native.Mathlib.Omega.{arith}
use lib.Dec.{T, T_not, eqb, eqb_refl, lit<}
use lib.Bits.{bit_xor, xor_lt, xor_self}
use lib.ListN.{length, get_or}
use Rattle.division.specs.Doubling.{twice}
use Rattle.field.specs.Field.{power, times, double}
use Rattle.basics.proofs.Xor.{xor_cross, xor_zero_eq}
use Rattle.basics.specs.Lists.{all_below}
use Rattle.basics.proofs.Tests.{below}
use Rattle.field.proofs.Laws.{times_xor_left, times_xor_right, times_lt, times_comm, times_assoc, times_one, zero_times, times_zero}
use Rattle.field.proofs.Laws.{two_times, power_lt, power_add, power_round}
use Rattle.field.proofs.Powers.{doublings, powers, power_at, no_zero_divisors}
use Rattle.basics.specs.Lists.{Bytes}
use Rattle.reed_solomon.specs.Roots.{locator, terms}
use Rattle.reed_solomon.proofs.Roots.{terms_lt}

-- ---- the places have different numbers: 2^(11 n) for n from 0 to 254

pub pos_or_zero : (x : ℕ) → (x ≡ 0 → ⊥) → 0 < x
pos_or_zero zero h = absurd (h refl)
pos_or_zero (suc x) h = zero-lt-suc x

pub power_pos : (k : ℕ) → 0 < power k
unfolding power
power_pos zero = lit< tt
power_pos (suc k) =
    let ih = power_pos k in
    pos_or_zero (double (power k)) (λ e.
    lt_irrefl 0 (subst (λ (x : ℕ). 0 < x) (no_zero_divisors 2 (power k) (lit< tt) (lit< tt) (power_lt k) (two_times (power k) (power_lt k) ∙ e)) ih))

round_many : (m r : ℕ) → power (r + m * 255) ≡ power r
round_many zero r = ap power (ap (λ (x : ℕ). r + x) (zero-mul 255) ∙ add-zero r)
round_many (suc m) r =
    ap power (ap (λ (x : ℕ). r + x) (suc-mul m 255) ∙ sym (add_assoc r (m * 255) 255)) ∙ power_round (r + m * 255) ∙ round_many m r

power_mod : (n : ℕ) → power n ≡ get_or powers (n % 255) 0
power_mod n = ap power (sym (mod-add-div' n 255)) ∙ round_many (n / 255) (n % 255) ∙ sym (power_at (n % 255) (mod-lt n (lit< tt)))

-- 2^(11 k) is not 1 for k from 1 to 254, computed
other_test : ℕ → Bool
other_test k = not (eqb (get_or powers (11 * suc k % 255) 0) 1)

other_tests : T (all_below 254 other_test)
unfolding other_test powers doublings double twice
other_tests = tt

not_one : (k : ℕ) → k < 254 → power (11 * suc k) ≡ 1 → ⊥
unfolding other_test
not_one k h e =
    let x = get_or powers (11 * suc k % 255) 0 in
    T_not (eqb x 1) (below 254 other_test other_tests k h) (subst (λ (y : ℕ). T (eqb y 1)) (sym (sym (power_mod (11 * suc k)) ∙ e)) (eqb_refl 1))

pub locator_other : (n k : ℕ) → k < 254 → locator n ≡ locator (n + suc k) → ⊥
locator_other n k h e =
    let P = power (11 * suc k) in
    let s : times (locator n) P ≡ locator n = power_add (11 * n) (11 * suc k) ∙ ap power (sym (mul-add 11 n (suc k))) ∙ sym e in
    let z : times (locator n) (bit_xor P 1) ≡ 0 =
    times_xor_right (locator n) P 1 (power_lt (11 * suc k)) (lit< tt) ∙ ap₂ bit_xor s (times_one (locator n) (power_lt (11 * n))) ∙ xor_self (locator n) in
    let small = xor_lt 8 P 1 (power_lt (11 * suc k)) (lit< tt) in
    not_one k h (xor_zero_eq P 1 (no_zero_divisors (locator n) (bit_xor P 1) (power_pos (11 * n)) (power_lt (11 * n)) small z))

-- ---- a place is taken out: each coefficient is multiplied by the difference of its place's number and a

abbrev pub taken_out : ℕ → List ℕ → List ℕ
taken_out a [] = []
taken_out a (c ∷ p) = times c (bit_xor (locator (length p)) a) ∷ taken_out a p

pub taken_length : (a : ℕ) (p : List ℕ) → length (taken_out a p) ≡ length p
taken_length a [] = refl
taken_length a (c ∷ p) = ap suc (taken_length a p)

pub diff_lt : (a n : ℕ) → a < 256 → bit_xor (locator n) a < 256
diff_lt a n h = xor_lt 8 (locator n) a (power_lt (11 * n)) h

pub taken_bytes : (a : ℕ) (p : List ℕ) → a < 256 → Bytes (taken_out a p)
taken_bytes a [] h = tt
taken_bytes a (c ∷ p) h = (times_lt c (bit_xor (locator (length p)) a) (diff_lt a (length p) h), taken_bytes a p h)

-- the sums of what is left come from two neighbouring sums
pub taken_terms : (a j : ℕ) (d : List ℕ) → a < 256 → Bytes d → terms (11 * j) (taken_out a d) ≡ bit_xor (terms (11 * suc j) d) (times a (terms (11 * j) d))
unfolding terms
taken_terms a j [] ha h = sym (times_zero a)
taken_terms a j (c ∷ p) ha h =
    let n = length p in
    let L = locator n in
    let P = power (11 * j * n) in
    let Q = power (11 * suc j * n) in
    let hL = power_lt (11 * n) in
    let hP = power_lt (11 * j * n) in
    let LP : times L P ≡ Q =
    power_add (11 * n) (11 * j * n) ∙ ap power (add_comm (11 * n) (11 * j * n) ∙ sym (ap (λ (x : ℕ). x * n) (mul-suc 11 j) ∙ add-mul (11 * j) 11 n)) in
    let swap : times c (times a P) ≡ times a (times c P) =
    sym (times_assoc c a P h.0 ha hP) ∙ ap (λ (x : ℕ). times x P) (times_comm c a h.0 ha) ∙ times_assoc a c P ha h.0 hP in
    let head : times (times c (bit_xor L a)) P ≡ bit_xor (times c Q) (times a (times c P)) =
    times_assoc c (bit_xor L a) P h.0 (diff_lt a n ha) hP
    ∙ ap (times c) (times_xor_left L a P)
    ∙ times_xor_right c (times L P) (times a P) (times_lt L P hP) (times_lt a P hP)
    ∙ ap₂ bit_xor (ap (times c) LP) swap in
    ap (λ (m : ℕ). bit_xor (times (times c (bit_xor L a)) (power (11 * j * m))) (terms (11 * j) (taken_out a p))) (taken_length a p)
    ∙ ap₂ bit_xor head (taken_terms a j p ha h.1)
    ∙ xor_cross (times c Q) (times a (times c P)) (terms (11 * suc j) p) (times a (terms (11 * j) p))
    ∙ ap (bit_xor (bit_xor (times c Q) (terms (11 * suc j) p))) (sym (times_xor_right a (times c P) (terms (11 * j) p) (times_lt c P hP) (terms_lt (11 * j) p)))

-- ---- the number of places that are not 0

abbrev pub filled : ℕ → ℕ
filled zero = 0
filled (suc x) = 1

unfoldable pub weight : List ℕ → ℕ
weight [] = 0
weight (x ∷ xs) = filled x + weight xs

pub filled_le : (x : ℕ) → filled x ≤ 1
filled_le zero = lib.Dec.lit≤ tt
filled_le (suc x) = lib.Dec.lit≤ tt

pub filled_times : (c y : ℕ) → filled (times c y) ≤ filled c
filled_times zero y = native.Mathlib.Nat.le_of_eq (ap filled (zero_times y))
filled_times (suc c) y = filled_le (times (suc c) y)

weight_taken : (a : ℕ) (d : List ℕ) → weight (taken_out a d) ≤ weight d
unfolding weight
weight_taken a [] = lib.Dec.lit≤ tt
weight_taken a (c ∷ p) = native.Mathlib.Nat.add-le-add (filled_times c (bit_xor (locator (length p)) a)) (weight_taken a p)

pub weight_less : (p : List ℕ) (c : ℕ) (q : List ℕ) → suc (weight (taken_out (locator (length q)) (p ++ suc c ∷ q))) ≤ weight (p ++ suc c ∷ q)
unfolding weight
weight_less [] c q =
    let e : filled (times (suc c) (bit_xor (locator (length q)) (locator (length q)))) ≡ 0 =
    ap (λ (x : ℕ). filled (times (suc c) x)) (xor_self (locator (length q))) ∙ ap filled (times_zero (suc c)) in
    omega (arith, weight_taken (locator (length q)) q)
weight_less (x ∷ p) c q =
    omega (arith, weight_less p c q, filled_times x (bit_xor (locator (length (p ++ suc c ∷ q))) (locator (length q))))

abbrev pub AllZero : List ℕ → Type 0
AllZero [] = Unit {0}
AllZero (x ∷ xs) = (x ≡ 0) × AllZero xs
