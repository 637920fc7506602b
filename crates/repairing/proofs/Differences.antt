-- The places where two lists differ: counted one by one, in either order, by parts, and by tests that agree place by place.
use mathlib.Core.Path.{◌≡◌, refl, sym, ap, ap₂, ◌∙◌}
use mathlib.Core.Bool.{Bool, true, false, cond, not}
use mathlib.Core.List.{List, [], ◌∷◌, ◌++◌}
use Prim.Native.Nat.{ℕ, suc, ◌+◌, ◌<◌}
use native.Mathlib.Nat.{suc_inj, suc-ne-zero, zero-add, add-zero, add_assoc, zero-lt-suc}
use native.Mathlib.Numerals.{add-one}
use native.Mathlib.Omega.{arith}
use borrow.Author.Tests.{eqb-true, eqb-false, eq-eqb, ne_eqb}
use lib.Dec.{eqb}
use lib.ListN.{length, get_or, drop}
use lib.Seq.{drop-cons}
use Rattle.std.specs.List.{count_by, fold, zip}
use Rattle.nearest.specs.Near.{differences}

-- 1 where two bytes differ, 0 where they are the same
abbrev pub differing : ℕ → ℕ → ℕ
differing a b = cond (eqb a b) 0 1

same_test : (a b c d : ℕ) → (a ≡ b → c ≡ d) → (c ≡ d → a ≡ b) → eqb a b ≡ eqb c d
same_test a b c d there back = go (eqb a b) refl
  where
    go : (t : Bool) → eqb a b ≡ t → eqb a b ≡ eqb c d
    go true e = e ∙ sym (eq-eqb c d (there (eqb-true a b e)))
    go false e = e ∙ sym (ne_eqb c d (λ q. eqb-false a b e (back q)))

pub differ_sym : (a b : List ℕ) → differences a b ≡ differences b a
unfolding differences
differ_sym [] [] = refl
differ_sym [] (y ∷ b) = refl
differ_sym (x ∷ a) [] = refl
differ_sym (x ∷ a) (y ∷ b) = ap₂ (λ (t : Bool) (n : ℕ). cond t 0 1 + n) (same_test x y y x sym sym) (differ_sym a b)

pub differ_append : (a b c d : List ℕ) → length a ≡ length c → differences (a ++ b) (c ++ d) ≡ differences a c + differences b d
unfolding differences
differ_append [] b [] d l = sym (zero-add (differences b d))
differ_append [] b (y ∷ c) d l = absurd (suc-ne-zero (length c) (sym l))
differ_append (x ∷ a) b [] d l = absurd (suc-ne-zero (length a) l)
differ_append (x ∷ a) b (y ∷ c) d l =
    ap (λ (n : ℕ). differing x y + n) (differ_append a b c d (suc_inj l)) ∙ sym (add_assoc (differing x y) (differences a c) (differences b d))

-- lists of one length that do not differ are the same
pub differ_same : (a b : List ℕ) → length a ≡ length b → differences a b ≡ 0 → a ≡ b
unfolding differences
differ_same [] [] l e = refl
differ_same [] (y ∷ b) l e = absurd (suc-ne-zero (length b) (sym l))
differ_same (x ∷ a) [] l e = absurd (suc-ne-zero (length a) l)
differ_same (x ∷ a) (y ∷ b) l e = go (eqb x y) refl (differ_same a b (suc_inj l))
  where
    go : (t : Bool) → eqb x y ≡ t → (differences a b ≡ 0 → a ≡ b) → x ∷ a ≡ y ∷ b
    go true t rest =
        let none : differing x y ≡ 0 = ap (λ (t : Bool). cond t 0 1) t in
        ap₂ (λ (h : ℕ) (l : List ℕ). h ∷ l) (eqb-true x y t) (rest (omega (arith, e, none)))
    go false t rest =
        let one : differing x y ≡ 1 = ap (λ (t : Bool). cond t 0 1) t in
        absurd (omega (arith, e, one))

-- a and b differ where c and d do
pub differ_alike : (a b c d : List ℕ) → length a ≡ length b → length c ≡ length a → length d ≡ length a
    → ((i : ℕ) → i < length a → (get_or a i 0 ≡ get_or b i 0 → get_or c i 0 ≡ get_or d i 0) × (get_or c i 0 ≡ get_or d i 0 → get_or a i 0 ≡ get_or b i 0))
    → differences a b ≡ differences c d
unfolding differences
differ_alike [] [] [] [] lb lc ld same = refl
differ_alike [] [] [] (w ∷ d) lb lc ld same = refl
differ_alike [] [] (z ∷ c) d lb lc ld same = absurd (suc-ne-zero (length c) lc)
differ_alike [] (y ∷ b) c d lb lc ld same = absurd (suc-ne-zero (length b) (sym lb))
differ_alike (x ∷ a) [] c d lb lc ld same = absurd (suc-ne-zero (length a) lb)
differ_alike (x ∷ a) (y ∷ b) [] d lb lc ld same = absurd (suc-ne-zero (length a) (sym lc))
differ_alike (x ∷ a) (y ∷ b) (z ∷ c) [] lb lc ld same = absurd (suc-ne-zero (length a) (sym ld))
differ_alike (x ∷ a) (y ∷ b) (z ∷ c) (w ∷ d) lb lc ld same =
    let first = same 0 (zero-lt-suc (length a)) in
    ap₂ (λ (t : Bool) (n : ℕ). cond t 0 1 + n) (same_test x y z w first.0 first.1)
    (differ_alike a b c d (suc_inj lb) (suc_inj lc) (suc_inj ld) (λ i h. same (suc i) (omega arith)))

pub differ_turn : (a b : List ℕ) (i : ℕ) → i < length a → i < length b
    → differences (drop i a) (drop i b) ≡ differing (get_or a i 0) (get_or b i 0) + differences (drop (i + 1) a) (drop (i + 1) b)
unfolding differences
differ_turn a b i ha hb =
    ap₂ differences (drop-cons a i 0 ha) (drop-cons b i 0 hb)
    ∙ ap (λ (n : ℕ). differing (get_or a i 0) (get_or b i 0) + differences (drop n a) (drop n b)) (sym (add-one i))

-- ---- counted pair by pair

one_counted : (same : Bool) → ◌≡◌ {A = ℕ} (cond (not same) 1 0) (cond same 0 1)
one_counted true = refl
one_counted false = refl

differing_pairs : (a b : List ℕ) (n : ℕ) → fold (λ (m : ℕ) (p : ℕ × ℕ). m + cond (not (eqb p.0 p.1)) 1 0) n (zip a b) ≡ n + differences a b
unfolding differences
differing_pairs [] [] n = sym (add-zero n)
differing_pairs [] (y ∷ b) n = sym (add-zero n)
differing_pairs (x ∷ a) [] n = sym (add-zero n)
differing_pairs (x ∷ a) (y ∷ b) n =
    differing_pairs a b (n + cond (not (eqb x y)) 1 0) ∙ ap (λ (m : ℕ). n + m + differences a b) (one_counted (eqb x y))
    ∙ add_assoc n (differing x y) (differences a b)

pub pairs_counted : (a b : List ℕ) → count_by (λ (p : ℕ × ℕ). not (eqb p.0 p.1)) (zip a b) ≡ differences a b
pairs_counted a b = differing_pairs a b 0 ∙ zero-add (differences a b)
