-- Bytes written at every eighth place: which stand there, and which are kept.
use mathlib.Core.Path.{◌≡◌, refl, sym, ap, ap₂, ◌∙◌}
use mathlib.Core.List.{List, [], ◌∷◌}
use Prim.Native.Nat.{ℕ, zero, suc, ◌+◌, ◌*◌, ◌≤◌, ◌<◌}
use native.Mathlib.Nat.{not-suc-le-zero, le_of_suc-le-suc, add-zero}
use native.Mathlib.Numerals.{add-one}
use native.Mathlib.Omega.{arith}
use lib.ListN.{length, get_or, set, drop, drop_of_length-le, length-set}
use lib.Seq.{drop-cons, get_or-set_same, get_or-set_other}
use Rattle.reed_solomon.specs.Rows.{spread}

pub spread_length : (xs : List ℕ) (k : ℕ) (l : List ℕ) → length (spread xs k l) ≡ length l
unfolding spread
spread_length [] k l = refl
spread_length (x ∷ xs) k l = spread_length xs (k + 8) (set l k x) ∙ length-set l k x

-- a loop: j of them are written
pub spread_turn : (p l : List ℕ) (k j : ℕ) → j < length p
    → spread (drop (j + 1) p) (k + 8 * (j + 1)) (set l (k + 8 * j) (get_or p j 0)) ≡ spread (drop j p) (k + 8 * j) l
unfolding spread
spread_turn p l k j h =
    ap₂ (λ (n i : ℕ). spread (drop n p) i (set l (k + 8 * j) (get_or p j 0))) (add-one j) (omega arith)
    ∙ ap (λ (q : List ℕ). spread q (k + 8 * j) l) (sym (drop-cons p j 0 h))

pub spread_end : (p l : List ℕ) (k j : ℕ) → length p ≤ j → spread (drop j p) k l ≡ l
unfolding spread
spread_end p l k j h = ap (λ (q : List ℕ). spread q k l) (drop_of_length-le p h)

pub spread_below : (xs : List ℕ) (k : ℕ) (l : List ℕ) (i : ℕ) → i < k → get_or (spread xs k l) i 0 ≡ get_or l i 0
unfolding spread
spread_below [] k l i h = refl
spread_below (x ∷ xs) k l i h = spread_below xs (k + 8) (set l k x) i (omega arith) ∙ get_or-set_other l k i x 0 (omega arith)

pub spread_at : (xs : List ℕ) (k : ℕ) (l : List ℕ) (j : ℕ) → j < length xs → k + 8 * j < length l → get_or (spread xs k l) (k + 8 * j) 0 ≡ get_or xs j 0
unfolding spread
spread_at [] k l j h r = absurd (not-suc-le-zero h)
spread_at (x ∷ xs) k l zero h r =
    ap (λ (i : ℕ). get_or (spread xs (k + 8) (set l k x)) i 0) (add-zero k)
    ∙ spread_below xs (k + 8) (set l k x) k (omega arith) ∙ get_or-set_same l k x 0 (omega arith)
spread_at (x ∷ xs) k l (suc j) h r =
    ap (λ (i : ℕ). get_or (spread xs (k + 8) (set l k x)) i 0) (omega arith)
    ∙ spread_at xs (k + 8) (set l k x) j (le_of_suc-le-suc h) (omega (arith, length-set l k x))

pub spread_other : (xs : List ℕ) (k : ℕ) (l : List ℕ) (i : ℕ) → ((j : ℕ) → i ≡ k + 8 * j → ⊥) → get_or (spread xs k l) i 0 ≡ get_or l i 0
unfolding spread
spread_other [] k l i f = refl
spread_other (x ∷ xs) k l i f =
    spread_other xs (k + 8) (set l k x) i (λ j e. f (suc j) (omega arith))
    ∙ get_or-set_other l k i x 0 (λ e. f 0 (omega arith))
