-- Tests on numbers: one of two orders holds; a test that antt computes at every number below a bound, and the fact at each.
use mathlib.Core.Path.{◌≡◌, refl, ap₂, subst, sym}
use mathlib.Core.List.{List, [], ◌∷◌}
use mathlib.Core.Bool.{Bool, true, false, false≢true, ◌&&◌}
use mathlib.Core.Logic.{◌⊎◌, inl, inr, ⊎_elim}
use Prim.Native.Nat.{ℕ, zero, suc, ◌≤◌, ◌<◌}
use native.Mathlib.Nat.{not-suc-le-zero, le_of_suc-le-suc, eq-or-lt_of_le, le_refl, lt_trans}
use lib.Dec.{T, ltb, eqb}
use borrow.Author.Tests.{ltb-true, ltb-false, eqb-true, eq-eqb}
use Rattle.basics.specs.Lists.{same, all_below}

pub lt_or_ge : (a b : ℕ) → (a < b) ⊎ (b ≤ a)
lt_or_ge a b = go (ltb a b) refl
  where
    go : (t : Bool) → ltb a b ≡ t → (a < b) ⊎ (b ≤ a)
    go true e = inl (ltb-true a b e)
    go false e = inr (ltb-false a b e)

pub and_left : (a b : Bool) → T (a && b) → T a
and_left true b t = tt
and_left false b t = t

pub and_right : (a b : Bool) → T (a && b) → T b
and_right true b t = t
and_right false b t = absurd t

pub below : (n : ℕ) (f : ℕ → Bool) → T (all_below n f) → (k : ℕ) → k < n → T (f k)
below zero f t k h = absurd (not-suc-le-zero h)
below (suc n) f t k h =
    ⊎_elim (λ e. subst (λ (m : ℕ). T (f m)) (sym e) (and_left (f n) (all_below n f) t))
    (λ l. below n f (and_right (f n) (all_below n f) t) k l) (eq-or-lt_of_le (le_of_suc-le-suc h))

-- ---- tests that are true, as equations

pub T_true : (b : Bool) → T b → b ≡ true
T_true true t = refl
T_true false t = absurd t

pub true_t : (b : Bool) → b ≡ true → T b
true_t b e = subst T (sym e) tt

pub both_true : (a b : Bool) → a ≡ true → b ≡ true → (a && b) ≡ true
both_true a b p q = ap₂ (λ (x y : Bool). x && y) p q

pub left_true : (a b : Bool) → (a && b) ≡ true → a ≡ true
left_true a b e = T_true a (and_left a b (true_t (a && b) e))

pub right_true : (a b : Bool) → (a && b) ≡ true → b ≡ true
right_true a b e = T_true b (and_right a b (true_t (a && b) e))

-- a test that cannot be true
pub never_true : (b : Bool) → (b ≡ true → ⊥) → false ≡ b
never_true true h = absurd (h refl)
never_true false h = refl

pub below_true : (n : ℕ) (f : ℕ → Bool) → all_below n f ≡ true → (k : ℕ) → k < n → f k ≡ true
below_true n f e k h = T_true (f k) (below n f (true_t (all_below n f) e) k h)

pub all_below_lem : (n : ℕ) (f : ℕ → Bool) → ((k : ℕ) → k < n → f k ≡ true) → all_below n f ≡ true
all_below_lem zero f each = refl
all_below_lem (suc n) f each =
    both_true (f n) (all_below n f) (each n (le_refl (suc n))) (all_below_lem n f (λ k h. each k (lt_trans h (le_refl (suc n)))))

pub same_true : (a b : List ℕ) → same a b ≡ true → a ≡ b
unfolding same
same_true [] [] e = refl
same_true [] (y ∷ b) e = absurd (false≢true e)
same_true (x ∷ a) [] e = absurd (false≢true e)
same_true (x ∷ a) (y ∷ b) e =
    ap₂ (λ (h : ℕ) (t : List ℕ). h ∷ t) (eqb-true x y (left_true (eqb x y) (same a b) e)) (same_true a b (right_true (eqb x y) (same a b) e))

pub same_self : (a : List ℕ) → same a a ≡ true
unfolding same
same_self [] = refl
same_self (x ∷ a) = both_true (eqb x x) (same a a) (eq-eqb x x refl) (same_self a)

-- a test that is true exactly where two lists are equal
pub is_same : (t : Bool) (a b : List ℕ) → (t ≡ true → a ≡ b) → (a ≡ b → t ≡ true) → t ≡ same a b
is_same true a b to from = sym (subst (λ (l : List ℕ). same a l ≡ true) (to refl) (same_self a))
is_same false a b to from = never_true (same a b) (λ e. false≢true (from (same_true a b e)))
