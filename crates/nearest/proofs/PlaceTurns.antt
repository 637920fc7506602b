-- Turns of the loop that finds the places where the values are 0.
use mathlib.Core.Path.{◌≡◌, refl, sym, ap, ap₂, ◌∙◌}
use mathlib.Core.List.{List, [], ◌∷◌, ◌++◌, append-nil}
use Prim.Native.Nat.{ℕ, zero, suc, ◌+◌, ◌-◌, ◌≤◌, ◌<◌}
use native.Mathlib.Nat.{not-suc-le-zero, le_refl}
use native.Mathlib.Numerals.{add-one}
use native.Mathlib.Omega.{arith}
use lib.ListN.{length, get_or, set, take, length-append}
use lib.Seq.{take-suc-set, length-take-le}
use Rattle.reed_solomon.specs.Roots.{locator}
use Rattle.nearest.specs.Search.{locators, pick, places, value_at}
use Rattle.nearest.proofs.Arrays.{put_next}

-- ---- the places where the values are 0

-- those below n
unfoldable pub zeros_below : ℕ → List ℕ → List ℕ
zeros_below zero v = []
zeros_below (suc n) v = pick (get_or v n 0) n (zeros_below n v)

pub zeros_places : (n : ℕ) (v l : List ℕ) → ((k : ℕ) → k < n → get_or v k 0 ≡ value_at (locator k) l) → zeros_below n v ≡ places n l
unfolding zeros_below places
zeros_places zero v l f = refl
zeros_places (suc n) v l f = ap₂ (λ (y : ℕ) (P : List ℕ). pick y n P) (f n (le_refl (suc n))) (zeros_places n v l (λ k h. f k (omega (arith, h))))

places_hit : (n : ℕ) (v : List ℕ) → 0 < n → get_or v (n - 1) 0 ≡ 0 → zeros_below n v ≡ (n - 1) ∷ zeros_below (n - 1) v
unfolding zeros_below
places_hit zero v p e = absurd (not-suc-le-zero p)
places_hit (suc n) v p e =
    let q : suc n - 1 ≡ n = omega arith in
    ap (λ (y : ℕ). pick y n (zeros_below n v)) (ap (λ (i : ℕ). get_or v i 0) (sym q) ∙ e) ∙ ap (λ (i : ℕ). i ∷ zeros_below i v) (sym q)

pick_not : (v n : ℕ) (P : List ℕ) → (v ≡ 0 → ⊥) → pick v n P ≡ P
pick_not zero n P f = absurd (f refl)
pick_not (suc v) n P f = refl

places_miss : (n : ℕ) (v : List ℕ) → 0 < n → (get_or v (n - 1) 0 ≡ 0 → ⊥) → zeros_below n v ≡ zeros_below (n - 1) v
unfolding zeros_below
places_miss zero v p f = absurd (not-suc-le-zero p)
places_miss (suc n) v p f =
    let q : suc n - 1 ≡ n = omega arith in
    pick_not (get_or v n 0) n (zeros_below n v) (λ e. f (ap (λ (i : ℕ). get_or v i 0) q ∙ e)) ∙ ap (λ (i : ℕ). zeros_below i v) (sym q)

-- where one more is found there is room for it
pub places_room : (at v : List ℕ) (m n : ℕ) → length at ≡ 8 → m ≤ 8 → length (zeros_below 255 v) ≤ 8
    → take m at ++ zeros_below n v ≡ zeros_below 255 v → get_or v (n - 1) 0 ≡ 0 → 0 < n → m < 8
places_room at v m n la hm few e z p =
    let Z = zeros_below n v in
    let a : length (take m at ++ Z) ≡ length (zeros_below 255 v) = ap length e in
    let b : length (take m at ++ Z) ≡ m + length Z =
    length-append (take m at) Z ∙ ap (λ (k : ℕ). k + length Z) (length-take-le m at (omega (arith, la, hm))) in
    let d : length Z ≡ suc (length (zeros_below (n - 1) v)) = ap length (places_hit n v p z) in
    omega (arith, a, b, d, few)

pub places_turn : (at P v : List ℕ) (m n : ℕ) → 0 < n → m < length at → take m at ++ zeros_below n v ≡ P → get_or v (n - 1) 0 ≡ 0
    → take (m + 1) (set at m (n - 1)) ++ zeros_below (n - 1) v ≡ P
places_turn at P v m n p hm e z =
    put_next at (zeros_below (n - 1) v) m (n - 1) hm ∙ ap (λ (t : List ℕ). take m at ++ t) (sym (places_hit n v p z)) ∙ e

pub places_skip : (at P v : List ℕ) (m n : ℕ) → 0 < n → take m at ++ zeros_below n v ≡ P → (get_or v (n - 1) 0 ≡ 0 → ⊥)
    → take m at ++ zeros_below (n - 1) v ≡ P
places_skip at P v m n p e f = ap (λ (t : List ℕ). take m at ++ t) (sym (places_miss n v p f)) ∙ e

pub places_end : (at P v : List ℕ) (m n : ℕ) → n ≡ 0 → take m at ++ zeros_below n v ≡ P → take m at ≡ P
unfolding zeros_below
places_end at P v m n z e = sym (append-nil (take m at)) ∙ ap (λ (k : ℕ). take m at ++ zeros_below k v) (sym z) ∙ e

-- ---- their numbers, in step with them

locators_snoc : (P : List ℕ) (p : ℕ) → locators (P ++ p ∷ []) ≡ locators P ++ locator p ∷ []
locators_snoc [] p = refl
locators_snoc (q ∷ P) p = ap (λ (l : List ℕ). locator q ∷ l) (locators_snoc P p)

pub numbers_turn : (at xs : List ℕ) (m p x : ℕ) → m < length at → m < length xs → x ≡ locator p → take m xs ≡ locators (take m at)
    → take (m + 1) (set xs m x) ≡ locators (take (m + 1) (set at m p))
numbers_turn at xs m p x ha hx e f =
    ap (λ (k : ℕ). take k (set xs m x)) (add-one m) ∙ take-suc-set xs m x hx
    ∙ ap₂ (λ (l : List ℕ) (y : ℕ). l ++ y ∷ []) f e
    ∙ sym (ap (λ (k : ℕ). locators (take k (set at m p))) (add-one m) ∙ ap locators (take-suc-set at m p ha) ∙ locators_snoc (take m at) p)
