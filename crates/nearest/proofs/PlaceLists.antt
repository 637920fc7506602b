-- Lists of places: which stand in them, and that places in falling order are apart.
use mathlib.Core.Path.{◌≡◌, refl, sym, ap}
use mathlib.Core.Logic.{◌⊎◌, inl, inr, ⊎_elim}
use mathlib.Core.List.{List, [], ◌∷◌, ◌++◌}
use Prim.Native.Nat.{ℕ, zero, suc, ◌≤◌, ◌<◌}
use native.Mathlib.Nat.{suc_inj, suc-ne-zero, le_refl}
use native.Mathlib.Omega.{arith}
use lib.ListN.{length}
use Rattle.nearest.specs.Search.{Falling}

-- two numbers are the same, or are not
pub same_or : (n p : ℕ) → (n ≡ p) ⊎ (n ≡ p → ⊥)
same_or zero zero = inl refl
same_or zero (suc p) = inr (λ e. suc-ne-zero p (sym e))
same_or (suc n) zero = inr (suc-ne-zero n)
same_or (suc n) (suc p) = ⊎_elim (λ e. inl (ap suc e)) (λ f. inr (λ e. f (suc_inj e))) (same_or n p)

-- n is one of the places
abbrev pub Member : ℕ → List ℕ → Type 0
Member n [] = ⊥
Member n (p ∷ P) = (n ≡ p) ⊎ Member n P

-- n is none of the places, all of which are below 255
abbrev pub Apart : ℕ → List ℕ → Type 0
Apart n [] = Unit {0}
Apart n (q ∷ P) = (q < 255) × (n ≡ q → ⊥) × Apart n P

pub member_or : (n : ℕ) (P : List ℕ) → Member n P ⊎ (Member n P → ⊥)
member_or n [] = inr (λ m. m)
member_or n (p ∷ P) =
    ⊎_elim (λ m. inl (inr m)) (λ f. ⊎_elim (λ e. inl (inl e)) (λ g. inr (λ m. ⊎_elim g f m)) (same_or n p)) (member_or n P)

pub member_behind : (m : ℕ) (A B : List ℕ) → Member m B → Member m (A ++ B)
member_behind m [] B h = h
member_behind m (a ∷ A) B h = inr (member_behind m A B h)

pub member_front : (m : ℕ) (A B : List ℕ) → Member m A → Member m (A ++ B)
member_front m [] B h = absurd h
member_front m (a ∷ A) B h = ⊎_elim (λ e. inl e) (λ r. inr (member_front m A B r)) h

pub member_split : (m : ℕ) (A B : List ℕ) → Member m (A ++ B) → Member m A ⊎ Member m B
member_split m [] B h = inr h
member_split m (a ∷ A) B h = ⊎_elim (λ e. inl (inl e)) (λ r. ⊎_elim (λ x. inl (inr x)) (λ y. inr y) (member_split m A B r)) h

pub move_last : (m n : ℕ) (A B : List ℕ) → Member m (A ++ n ∷ B) → Member m ((A ++ B) ++ n ∷ [])
move_last m n A B h =
    ⊎_elim (λ a. member_front m (A ++ B) (n ∷ []) (member_front m A B a))
    (λ t. ⊎_elim (λ e. member_behind m (A ++ B) (n ∷ []) (inl e)) (λ b. member_front m (A ++ B) (n ∷ []) (member_behind m A B b)) t)
    (member_split m A (n ∷ B) h)

pub falling_in : (a n : ℕ) (A B : List ℕ) → Falling a (A ++ n ∷ B) → n < a
falling_in a n [] B f = f.0
falling_in a n (x ∷ A) B f = omega (arith, f.0, falling_in x n A B f.1)

apart_below : (m n : ℕ) (B : List ℕ) → m ≤ n → n < 255 → Falling m B → Apart n B
apart_below m n [] le hn f = tt
apart_below m n (q ∷ B) le hn f = (omega (arith, f.0), (λ e. absurd (omega (arith, f.0, e))), apart_below q n B (omega (arith, f.0)) hn f.1)

pub falling_apart : (m n : ℕ) (A B : List ℕ) → m ≤ 255 → Falling m (A ++ n ∷ B) → Apart n (A ++ B)
falling_apart m n [] B le f = apart_below n n B (le_refl n) (omega (arith, f.0)) f.1
falling_apart m n (a ∷ A) B le f =
    (omega (arith, f.0), (λ e. absurd (omega (arith, falling_in a n A B f.1, e))), falling_apart a n A B (omega (arith, f.0)) f.1)

pub apart_not : (n : ℕ) (A B : List ℕ) → Apart n (A ++ B) → Member n A → ⊥
apart_not n [] B a m = m
apart_not n (x ∷ A) B a m = ⊎_elim (λ e. a.1 e) (λ r. apart_not n A B a.2 r) m

pub length_other : (n : ℕ) (A B : List ℕ) → length (A ++ n ∷ B) ≡ suc (length (A ++ B))
length_other n [] B = refl
length_other n (a ∷ A) B = ap suc (length_other n A B)
