-- Turns of the loops that find the errors and add them.
use mathlib.Core.Path.{◌≡◌, refl, sym, ap, ap₂, ◌∙◌, subst}
use mathlib.Core.List.{List, [], ◌∷◌, ◌++◌}
use Prim.Native.Nat.{ℕ, zero, suc, ◌+◌, ◌-◌, ◌≤◌, ◌<◌}
use native.Mathlib.Nat.{suc_inj, suc-ne-zero, not-suc-le-zero, le_of_suc-le-suc, le_of_eq, le_of_lt}
use native.Mathlib.Numerals.{add-one}
use native.Mathlib.Omega.{arith}
use lib.Bits.{bit_xor, xor_lt}
use lib.ListN.{length, get_or, set, take, drop, length-drop, drop_of_length-le}
use lib.Seq.{drop-cons, get_or-take, length-take-le, ext_get_or, split_at, take-take, take-suc}
use Rattle.std.specs.List.{copy_within}
use Rattle.std.proofs.lemmas.List.Edits.{take-paste}
use Rattle.basics.proofs.Lists.{drop_take}
use Rattle.field.specs.Field.{times}
use Rattle.field.proofs.Laws.{times_assoc, times_comm, one_times}
use Rattle.reed_solomon.specs.Roots.{locator}
use Rattle.nearest.specs.Search.{Falling, error_at, factor, fix_all, locators, without, without_all}
use Rattle.nearest.proofs.ErrorLaws.{factor_lt}
use Rattle.nearest.proofs.PlaceLists.{falling_in}

-- ---- all numbers but one

pub others_taken : (xs : List ℕ) (m i : ℕ) → i < m → m ≤ length xs
    → take (m - 1) (copy_within xs (i + 1) m i) ≡ take i xs ++ drop (i + 1) (take m xs)
others_taken xs m i h l =
    let n = m - (i + 1) in
    let p : m - 1 ≡ i + n = omega arith in
    let behind = drop (i + 1) xs in
    ap (λ (k : ℕ). take k (copy_within xs (i + 1) m i)) p
    ∙ take-paste xs i behind n (omega arith) (omega (arith, length-drop (i + 1) xs))
    ∙ ap (λ (t : List ℕ). take i xs ++ t) (sym (drop_take (i + 1) m xs (omega arith) (omega arith)))

-- ---- the sums without a place, and the divisor

without_length : (a : ℕ) (S : List ℕ) (k : ℕ) → length S ≡ suc k → length (without a S) ≡ k
unfolding without
without_length a [] k e = absurd (suc-ne-zero k (sym e))
without_length a (s ∷ []) k e = suc_inj e
without_length a (s ∷ t ∷ S) zero e = absurd (suc-ne-zero (length S) (suc_inj e))
without_length a (s ∷ t ∷ S) (suc k) e = ap suc (without_length a (t ∷ S) k (suc_inj e))

without_at : (a : ℕ) (S : List ℕ) (i : ℕ) → suc i < length S → get_or (without a S) i 0 ≡ bit_xor (get_or S (suc i) 0) (times a (get_or S i 0))
unfolding without
without_at a [] i h = absurd (not-suc-le-zero h)
without_at a (s ∷ []) i h = absurd (not-suc-le-zero (le_of_suc-le-suc h))
without_at a (s ∷ t ∷ S) zero h = refl
without_at a (s ∷ t ∷ S) (suc i) h = without_at a (t ∷ S) i (le_of_suc-le-suc h)

without_take : (t u : List ℕ) (a k : ℕ) → length t ≡ 16 → length u ≡ 16 → k ≤ 15
    → ((i : ℕ) → i < 15 → get_or u i 0 ≡ bit_xor (get_or t (i + 1) 0) (times a (get_or t i 0)))
    → take k u ≡ without a (take (suc k) t)
without_take t u a k lt lu hk f =
    let m : length (take (suc k) t) ≡ suc k = length-take-le (suc k) t (omega (arith, lt)) in
    let n : length (take k u) ≡ k = length-take-le k u (omega (arith, lu)) in
    ext_get_or 0 (take k u) (without a (take (suc k) t)) (n ∙ sym (without_length a (take (suc k) t) k m))
    (λ i h.
    let h' : i < k = subst (λ (x : ℕ). i < x) n h in
    get_or-take k u i 0 h' ∙ f i (omega (arith, h', hk))
    ∙ ap₂ (λ (x y : ℕ). bit_xor x (times a y))
    (ap (λ (j : ℕ). get_or t j 0) (add-one i) ∙ sym (get_or-take (suc k) t (suc i) 0 (omega (arith, h'))))
    (sym (get_or-take (suc k) t i 0 (omega (arith, h'))))
    ∙ sym (without_at a (take (suc k) t) i (subst (λ (x : ℕ). suc i < x) (sym m) (omega (arith, h')))))

without_all_cons : (y : ℕ) (Y S : List ℕ) → without_all (y ∷ Y) S ≡ without_all Y (without y S)
unfolding without_all
without_all_cons y Y S = refl

next_first : (o : List ℕ) (q : ℕ) → q < length o → drop q o ≡ get_or o q 0 ∷ drop (q + 1) o
next_first o q h = drop-cons o q 0 h ∙ ap (λ (k : ℕ). get_or o q 0 ∷ drop k o) (sym (add-one q))

pub without_all_turn : (o t u C : List ℕ) (q : ℕ) → q < length o → length o ≤ 7 → length t ≡ 16 → length u ≡ 16
    → ((i : ℕ) → i < 15 → get_or u i 0 ≡ bit_xor (get_or t (i + 1) 0) (times (get_or o q 0) (get_or t i 0)))
    → without_all (drop q o) (take (16 - q) t) ≡ C → without_all (drop (q + 1) o) (take (16 - (q + 1)) u) ≡ C
without_all_turn o t u C q h few lt lu f e =
    let k = 16 - (q + 1) in
    let p : 16 - q ≡ suc k = omega (arith, h, few) in
    let y = get_or o q 0 in
    let Y = drop (q + 1) o in
    ap (without_all Y) (without_take t u y k lt lu (omega arith) f)
    ∙ sym (ap (λ (Z : List ℕ). without_all Z (take (16 - q) t)) (next_first o q h)
    ∙ without_all_cons y Y (take (16 - q) t)
    ∙ ap (λ (i : ℕ). without_all Y (without y (take i t))) p)
    ∙ e

factor_cons : (x y : ℕ) (Y : List ℕ) → factor x (y ∷ Y) ≡ times (bit_xor x y) (factor x Y)
unfolding factor
factor_cons x y Y = refl

pub factor_turn : (x : ℕ) (o : List ℕ) (q d C : ℕ) → q < length o → x < 256 → get_or o q 0 < 256 → d < 256
    → times (factor x (drop q o)) d ≡ C → times (factor x (drop (q + 1) o)) (times (bit_xor x (get_or o q 0)) d) ≡ C
factor_turn x o q d C h hx hy hd e =
    let y = get_or o q 0 in
    let f = bit_xor x y in
    let R = drop (q + 1) o in
    let F = factor x R in
    let hf : f < 256 = xor_lt 8 x y hx hy in
    let hF : F < 256 = factor_lt x R in
    sym (times_assoc F f d hF hf hd) ∙ ap (λ (z : ℕ). times z d) (times_comm F f hF hf)
    ∙ sym (ap (λ (z : ℕ). times z d) (ap (factor x) (next_first o q h) ∙ factor_cons x y R))
    ∙ e

pub without_all_end : (o t C : List ℕ) (q : ℕ) → q ≡ length o → length o ≤ 7 → without_all (drop q o) (take (16 - q) t) ≡ C
    → get_or t 0 0 ≡ get_or C 0 0
unfolding without_all
without_all_end o t C q h few e =
    sym (get_or-take (16 - q) t 0 0 (omega (arith, h, few)))
    ∙ ap (λ (P : List ℕ). get_or (without_all P (take (16 - q) t)) 0 0) (sym (drop_of_length-le o (le_of_eq (sym h))))
    ∙ ap (λ (S : List ℕ). get_or S 0 0) e

pub factor_end : (x : ℕ) (o : List ℕ) (q d C : ℕ) → q ≡ length o → d < 256 → times (factor x (drop q o)) d ≡ C → d ≡ C
unfolding factor
factor_end x o q d C h hd e =
    sym (one_times d hd) ∙ ap (λ (P : List ℕ). times (factor x P) d) (sym (drop_of_length-le o (le_of_eq (sym h)))) ∙ e

-- ---- the repair of a place

fix_all_cons : (S A : List ℕ) (n : ℕ) (B v : List ℕ)
    → fix_all S A (n ∷ B) v ≡ fix_all S (A ++ n ∷ []) B (set v (254 - n) (bit_xor (get_or v (254 - n) 0) (error_at S (locator n) (locators (A ++ B)))))
unfolding fix_all
fix_all_cons S A n B v = refl

locators_take : (i : ℕ) (P : List ℕ) → take i (locators P) ≡ locators (take i P)
locators_take zero P = refl
locators_take (suc i) [] = refl
locators_take (suc i) (p ∷ P) = ap (λ (l : List ℕ). locator p ∷ l) (locators_take i P)

locators_drop : (i : ℕ) (P : List ℕ) → drop i (locators P) ≡ locators (drop i P)
locators_drop zero P = refl
locators_drop (suc i) [] = refl
locators_drop (suc i) (p ∷ P) = locators_drop i P

locators_append : (A B : List ℕ) → locators (A ++ B) ≡ locators A ++ locators B
locators_append [] B = refl
locators_append (a ∷ A) B = ap (λ (l : List ℕ). locator a ∷ l) (locators_append A B)

locators_at : (P : List ℕ) (i : ℕ) → i < length P → get_or (locators P) i 0 ≡ locator (get_or P i 0)
locators_at [] i h = absurd (not-suc-le-zero h)
locators_at (p ∷ P) zero h = refl
locators_at (p ∷ P) (suc i) h = locators_at P i (le_of_suc-le-suc h)

module _ (at xs : List ℕ) (m i : ℕ) (hi : i < m) (hm : m ≤ length at) (numbers : take m xs ≡ locators (take m at)) where
  abbrev P : List ℕ
  P = take m at

  here : get_or P i 0 ≡ get_or at i 0
  here = get_or-take m at i 0 hi

  inside : i < length P
  inside = subst (λ (n : ℕ). i < n) (sym (length-take-le m at hm)) hi

  pub fix_place : Falling 255 P → get_or at i 0 < 255
  fix_place f =
      falling_in 255 (get_or at i 0) (take i P) (drop (suc i) P)
      (subst (Falling 255) (split_at P i 0 inside ∙ ap (λ (n : ℕ). take i P ++ n ∷ drop (suc i) P) here) f)

  pub number_here : get_or xs i 0 ≡ locator (get_or at i 0)
  number_here = sym (get_or-take m xs i 0 hi) ∙ ap (λ (l : List ℕ). get_or l i 0) numbers ∙ locators_at P i inside ∙ ap locator here

  same_others : (o : List ℕ) → take (m - 1) o ≡ take i xs ++ drop (i + 1) (take m xs) → take (m - 1) o ≡ locators (take i P ++ drop (suc i) P)
  same_others o e =
      e ∙ ap₂ (λ (a : List ℕ) (n : ℕ). a ++ drop n (take m xs)) (sym (take-take i m xs (le_of_lt hi))) (add-one i)
      ∙ ap (λ (l : List ℕ). take i l ++ drop (suc i) l) numbers
      ∙ ap₂ (λ (a b : List ℕ). a ++ b) (locators_take i P) (locators_drop (suc i) P) ∙ sym (locators_append (take i P) (drop (suc i) P))

  pub fix_turn : (s out o C : List ℕ) (v : ℕ) → take (m - 1) o ≡ take i xs ++ drop (i + 1) (take m xs)
      → v ≡ error_at s (get_or xs i 0) (take (m - 1) o)
      → fix_all s (take i P) (drop i P) out ≡ C
      → fix_all s (take (i + 1) P) (drop (i + 1) P) (set out (254 - get_or at i 0) (bit_xor (get_or out (254 - get_or at i 0) 0) v)) ≡ C
  fix_turn s out o C v e ev q =
      let n = get_or at i 0 in
      let A = take i P in
      let B = drop (suc i) P in
      let fixed : ℕ → List ℕ = λ y. set out (254 - n) (bit_xor (get_or out (254 - n) 0) y) in
      let x = error_at s (locator n) (locators (A ++ B)) in
      let w : v ≡ x = ev ∙ ap₂ (error_at s) number_here (same_others o e) in
      ap₂ (λ (k : ℕ) (y : ℕ). fix_all s (take k P) (drop k P) (fixed y)) (add-one i) w
      ∙ ap (λ (a : List ℕ). fix_all s a B (fixed x)) (take-suc P i 0 inside ∙ ap (λ (k : ℕ). A ++ k ∷ []) here)
      ∙ sym (fix_all_cons s A n B out)
      ∙ ap (λ (b : List ℕ). fix_all s A b out) (sym (drop-cons P i 0 inside ∙ ap (λ (k : ℕ). k ∷ B) here))
      ∙ q

pub fix_end : (s P out C : List ℕ) (i : ℕ) → length P ≤ i → fix_all s (take i P) (drop i P) out ≡ C → out ≡ C
unfolding fix_all
fix_end s P out C i h e = sym (ap (λ (b : List ℕ). fix_all s (take i P) b out) (drop_of_length-le P h)) ∙ e
