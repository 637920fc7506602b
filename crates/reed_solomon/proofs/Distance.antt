-- Two codewords that differ in at most 16 places are equal, and so at most one codeword is within 8 places of a word.
use mathlib.Core.Path.{◌≡◌, refl, sym, ap, ap₂, ◌∙◌, subst}
use mathlib.Core.Logic.{◌⊎◌, inl, inr}
use mathlib.Core.List.{List, [], ◌∷◌, ◌++◌}
use Prim.Native.Nat.{ℕ, zero, suc, ◌+◌, ◌*◌, ◌≤◌, ◌<◌}
use native.Mathlib.Nat.{suc_inj, suc-ne-zero, zero-lt-suc, lt_irrefl, le_of_suc-le-suc, suc-add, add-suc, add-zero, add_comm}
use native.Mathlib.Omega.{arith}
use lib.Bits.{bit_xor, xor_self, xor_zero_r}
use lib.ListN.{length, length-append}
use Rattle.field.specs.Field.{power, times}
use Rattle.basics.proofs.Xor.{xor_cross, xor_zero_eq}
use Rattle.field.proofs.Laws.{times_xor_left, zero_times, times_zero, power_lt}
use Rattle.field.proofs.Powers.{no_zero_divisors}
use Rattle.basics.specs.Lists.{zeros, Bytes}
use Rattle.basics.proofs.Lists.{bytes_behind}
use Rattle.division.specs.Division.{plus}
use Rattle.division.proofs.Register.{plus_zero_eq, plus_length}
use Rattle.division.proofs.Linear.{remainder_plus}
use Rattle.reed_solomon.specs.Code.{generator}
use Rattle.reed_solomon.specs.Roots.{locator, terms}
use Rattle.reed_solomon.proofs.Laws.{Codeword, codeword_length}
use Rattle.reed_solomon.proofs.Roots.{plus_bytes, codeword_terms}
use Rattle.reed_solomon.proofs.Places.{locator_other, power_pos, taken_out, taken_length, taken_bytes, diff_lt, taken_terms}
use Rattle.reed_solomon.proofs.Places.{filled, filled_le, weight, weight_less, AllZero}

-- all places are 0, or one is not
abbrev Found : List ℕ → Type 0
Found d = (p : List ℕ) × (c : ℕ) × (q : List ℕ) × (d ≡ p ++ suc c ∷ q)

find : (d : List ℕ) → AllZero d ⊎ Found d
find [] = inl tt
find (suc x ∷ d) = inr ([], x, d, refl)
find (zero ∷ d) = mathlib.Core.Logic.⊎_elim (λ z. inl (refl, z)) (λ f. inr (0 ∷ f.0, f.1, f.2, ap (λ (l : List ℕ). 0 ∷ l) f.3)) (find d)

weight_none : (d : List ℕ) → weight d ≤ 0 → AllZero d
unfolding weight
weight_none [] h = tt
weight_none (zero ∷ d) h = (refl, weight_none d (omega arith))
weight_none (suc x ∷ d) h = absurd (omega arith)

-- ---- one place alone

pub zero_of : (x y : ℕ) → x < 256 → y < 256 → times x y ≡ 0 → (y ≡ 0 → ⊥) → x ≡ 0
zero_of zero y hx hy e h = refl
zero_of (suc x) y hx hy e h = absurd (h (no_zero_divisors (suc x) y (zero-lt-suc x) hx hy e))

before_zero : (p : List ℕ) (c : ℕ) (q : List ℕ) → length (p ++ c ∷ q) ≤ 255 → Bytes (p ++ c ∷ q)
    → AllZero (taken_out (locator (length q)) (p ++ c ∷ q)) → AllZero p
before_zero [] c q l h z = tt
before_zero (x ∷ p) c q l h z =
    let n = length (p ++ c ∷ q) in
    let m = length q in
    let e : n ≡ m + suc (length p) = length-append p (c ∷ q) ∙ add-suc (length p) m ∙ sym (add-suc m (length p) ∙ ap suc (add_comm m (length p))) in (
      zero_of x (bit_xor (locator n) (locator m)) h.0 (diff_lt (locator m) n (power_lt (11 * m))) z.0
          (λ f. locator_other m (length p) (omega arith) (sym (xor_zero_eq (locator n) (locator m) f) ∙ ap locator e)),
      before_zero p c q (omega arith) h.1 z.1,
    )

after_zero : (q : List ℕ) (m : ℕ) → length q < suc m → m < 255 → Bytes q → AllZero (taken_out (locator m) q) → AllZero q
after_zero [] m l k h z = tt
after_zero (x ∷ q) m l k h z =
    let n = length q in
    let d = native.Mathlib.Nat.le_dest {n = suc n} {m = m} (le_of_suc-le-suc l) in
    let e : n + suc d.0 ≡ m = add-suc n d.0 ∙ sym (suc-add n d.0) ∙ d.1 in (
      zero_of x (bit_xor (locator n) (locator m)) h.0 (diff_lt (locator m) n (power_lt (11 * m))) z.0
          (λ f. locator_other n d.0 (omega arith) (xor_zero_eq (locator n) (locator m) f ∙ ap locator (sym e))),
      after_zero q m (omega arith) k h.1 z.1,
    )

terms_behind : (u : ℕ) (p r : List ℕ) → AllZero p → terms u (p ++ r) ≡ terms u r
unfolding terms
terms_behind u [] r z = refl
terms_behind u (x ∷ p) r z =
    ap (λ (y : ℕ). bit_xor (times y (power (u * length (p ++ r)))) (terms u (p ++ r))) z.0
    ∙ ap (λ (y : ℕ). bit_xor y (terms u (p ++ r))) (zero_times (power (u * length (p ++ r)))) ∙ terms_behind u p r z.1

pub terms_none : (u : ℕ) (q : List ℕ) → AllZero q → terms u q ≡ 0
unfolding terms
terms_none u [] z = refl
terms_none u (x ∷ q) z =
    ap₂ bit_xor (ap (λ (y : ℕ). times y (power (u * length q))) z.0 ∙ zero_times (power (u * length q))) (terms_none u q z.1)

split_zero : (a : ℕ) (p q : List ℕ) → AllZero (taken_out a (p ++ q)) → AllZero (taken_out a q)
split_zero a [] q z = z
split_zero a (x ∷ p) q z = split_zero a p q z.1

-- a word with one place that is not 0 has no sum 0
alone : (u : ℕ) (p : List ℕ) (c : ℕ) (q : List ℕ) → suc c < 256 → AllZero p → AllZero q → terms u (p ++ suc c ∷ q) ≡ 0 → ⊥
unfolding terms
alone u p c q hc zp zq e =
    let P = power (u * length q) in
    let t : times (suc c) P ≡ 0 =
    sym (terms_behind u p (suc c ∷ q) zp ∙ ap (bit_xor (times (suc c) P)) (terms_none u q zq) ∙ xor_zero_r (times (suc c) P)) ∙ e in
    lt_irrefl 0 (subst (λ (x : ℕ). 0 < x) (no_zero_divisors (suc c) P (zero-lt-suc c) hc (power_lt (u * length q)) t) (power_pos (u * length q)))

-- ---- as many sums that are 0 as places that may not be: all places are 0

pub all_zero_lem : (t b : ℕ) (d : List ℕ) → length d ≤ 255 → Bytes d → weight d ≤ t → ((j : ℕ) → j < t → terms (11 * (b + j)) d ≡ 0) → AllZero d
all_zero_lem zero b d l h w s = weight_none d w
all_zero_lem (suc t) b d l h w s =
    mathlib.Core.Logic.⊎_elim (λ z. z)
    (λ f.
    let p = f.0 in
    let c = f.1 in
    let q = f.2 in
    let D = p ++ suc c ∷ q in
    let e : d ≡ D = f.3 in
    let a = locator (length q) in
    let ha : a < 256 = power_lt (11 * length q) in
    let hD : Bytes D = subst Bytes e h in
    let lD : length D ≤ 255 = subst (λ (x : List ℕ). length x ≤ 255) e l in
    let wD : weight D ≤ suc t = subst (λ (x : List ℕ). weight x ≤ suc t) e w in
    let z : AllZero (taken_out a D) =
    all_zero_lem t b (taken_out a D) (subst (λ (n : ℕ). n ≤ 255) (sym (taken_length a D)) lD) (taken_bytes a D ha) (omega (arith, weight_less p c q))
    (λ j hj.
    taken_terms a (b + j) D ha hD
    ∙ ap₂ (λ (x y : ℕ). bit_xor x (times a y))
    (ap (λ (n : ℕ). terms (11 * n) D) (sym (add-suc b j)) ∙ subst (λ (x : List ℕ). terms (11 * (b + suc j)) x ≡ 0) e (s (suc j) (omega arith)))
    (subst (λ (x : List ℕ). terms (11 * (b + j)) x ≡ 0) e (s j (omega arith)))
    ∙ times_zero a) in
    let hq = bytes_behind p (suc c ∷ q) hD in
    let zq = split_zero a p (suc c ∷ q) z in
    absurd (alone (11 * (b + 0)) p c q hq.0 (before_zero p (suc c) q lD hD z)
    (after_zero q (length q) (native.Mathlib.Nat.le_refl (suc (length q))) (omega (arith, length-append p (suc c ∷ q))) hq.1 zq.1)
    (subst (λ (x : List ℕ). terms (11 * (b + 0)) x ≡ 0) e (s 0 (omega arith)))))
    (find d)

-- ---- codewords

pub zeros_of : (d : List ℕ) → AllZero d → d ≡ zeros (length d)
zeros_of [] z = refl
zeros_of (x ∷ d) z = ap₂ (λ (h : ℕ) (t : List ℕ). h ∷ t) z.0 (zeros_of d z.1)

sum_codeword : (v w : List ℕ) → Codeword v → Codeword w → Codeword (plus v w)
unfolding Codeword
sum_codeword v w cv cw = (
  plus_length v w 255 cv.0 cw.0,
  remainder_plus times times_xor_left (mathlib.Core.List.tail generator) 239 v w (cv.0 ∙ sym cw.0) ∙ ap₂ plus cv.1 cw.1 ∙ zero_sum,
)
  where
    zero_sum : plus (zeros 16) (zeros 16) ≡ zeros 16
    zero_sum = Rattle.division.proofs.Register.plus_zeros 16 (zeros 16) (lib.Dec.lit≤ tt)

-- two codewords that differ in at most 16 places are equal
pub distance : (v w : List ℕ) → Bytes v → Bytes w → Codeword v → Codeword w → weight (plus v w) ≤ 16 → v ≡ w
distance v w hv hw cv cw h =
    let c = sum_codeword v w cv cw in
    let l = codeword_length (plus v w) c in
    let d = plus_bytes v w hv hw in
    let e = codeword_length v cv ∙ sym (codeword_length w cw) in
    plus_zero_eq v w e
    (zeros_of (plus v w) (all_zero_lem 16 120 (plus v w) (native.Mathlib.Nat.le_of_eq l) d h (codeword_terms (plus v w) d c))
    ∙ ap zeros (l ∙ sym (codeword_length w cw)))

-- ---- near words

filled_sum : (x y : ℕ) → filled (bit_xor x y) ≤ filled x + filled y
filled_sum zero y = native.Mathlib.Nat.le_of_eq (sym (native.Mathlib.Nat.zero-add (filled y)))
filled_sum (suc x) y = omega (arith, filled_le (bit_xor (suc x) y))

weight_plus : (xs ys : List ℕ) → weight (plus xs ys) ≤ weight xs + weight ys
unfolding weight plus
weight_plus [] ys = native.Mathlib.Nat.le_of_eq (sym (native.Mathlib.Nat.zero-add (weight ys)))
weight_plus (x ∷ xs) [] = native.Mathlib.Nat.le_of_eq (sym (add-zero (filled x + weight xs)))
weight_plus (x ∷ xs) (y ∷ ys) = omega (arith, filled_sum x y, weight_plus xs ys)

-- what is added twice is gone
plus_through : (u v w : List ℕ) → length u ≡ length v → length w ≡ length v → plus (plus u v) (plus w v) ≡ plus u w
unfolding plus
plus_through [] [] [] e f = refl
plus_through [] [] (z ∷ w) e f = absurd (suc-ne-zero (length w) f)
plus_through [] (y ∷ v) w e f = absurd (suc-ne-zero (length v) (sym e))
plus_through (x ∷ u) [] w e f = absurd (suc-ne-zero (length u) e)
plus_through (x ∷ u) (y ∷ v) [] e f = absurd (suc-ne-zero (length v) (sym f))
plus_through (x ∷ u) (y ∷ v) (z ∷ w) e f =
    ap₂ (λ (h : ℕ) (t : List ℕ). h ∷ t)
    (xor_cross x y z y ∙ ap (bit_xor (bit_xor x z)) (xor_self y) ∙ xor_zero_r (bit_xor x z))
    (plus_through u v w (suc_inj e) (suc_inj f))

-- at most one codeword differs from a word of 255 bytes in at most 8 places
pub one_near : (v u w : List ℕ) → length v ≡ 255 → Bytes u → Bytes w → Codeword u → Codeword w → weight (plus u v) ≤ 8 → weight (plus w v) ≤ 8 → u ≡ w
one_near v u w l hu hw cu cw nu nw =
    distance u w hu hw cu cw
    (subst (λ (d : List ℕ). weight d ≤ 16) (plus_through u v w (codeword_length u cu ∙ sym l) (codeword_length w cw ∙ sym l))
    (omega (arith, weight_plus (plus u v) (plus w v))))
