-- Turns of the loops that find the error locator.
use mathlib.Core.Path.{◌≡◌, refl, sym, ap, ap₂, ◌∙◌, subst}
use mathlib.Core.List.{List, [], ◌∷◌, ◌++◌, tail, append-nil, reverse, reverse-cons}
use Prim.Native.Nat.{ℕ, zero, suc, ◌+◌, ◌-◌, ◌≤◌, ◌<◌}
use native.Mathlib.Nat.{suc_inj, suc-ne-zero, not-suc-le-zero, le_of_suc-le-suc}
use native.Mathlib.Numerals.{add-one}
use native.Mathlib.Omega.{arith}
use lib.Bits.{bit_xor}
use lib.ListN.{length, get_or, set, take, drop}
use lib.Seq.{get_or-take, length-take-le}
use Rattle.std.specs.List.{fold}
use Rattle.std.proofs.lemmas.List.Sums.{fold-append}
use Rattle.field.specs.Field.{times}
use Rattle.division.proofs.Register.{plus_get_or, plus_length, scale_get_or, scale_length}
use Rattle.division.specs.Division.{scale}
use Rattle.nearest.specs.Search.{carry, cut, cut_all, dot, error_locator, first, keep, mix, pass, units}
use Rattle.nearest.proofs.Arrays.{put_next, rest_first, rest_none}
use Rattle.nearest.proofs.Rising.{carry_same, keep_mix}

pub mix_at : (x y : ℕ) (b k : List ℕ) (i : ℕ) → length b ≡ 9 → length k ≡ 9 → i < 9
    → bit_xor (times x (get_or b i 0)) (times y (get_or k i 0)) ≡ get_or (mix x b y k) i 0
unfolding mix
mix_at x y b k i hb hk h =
    sym (plus_get_or (scale times x b) (scale times y k) i
    ∙ ap₂ bit_xor (scale_get_or times x b i (subst (λ (n : ℕ). i < n) (sym hb) h)) (scale_get_or times y k i (subst (λ (n : ℕ). i < n) (sym hk) h)))

pub mix_long : (x y : ℕ) (b k : List ℕ) → length b ≡ 9 → length k ≡ 9 → length (mix x b y k) ≡ 9
unfolding mix
mix_long x y b k hb hk = plus_length (scale times x b) (scale times y k) 9 (scale_length times x b ∙ hb) (scale_length times y k ∙ hk)

-- ---- a row is carried along the others

pub cut_start : (S : List ℕ) (b out : List (List ℕ)) (m : ℕ) → 0 < m → 0 < length b
    → take 0 out ++ pass S (get_or b 0 []) (drop 1 (take m b)) ≡ cut S (take m b)
unfolding cut
cut_start S [] out m hm hb = absurd (not-suc-le-zero hb)
cut_start S (r ∷ b) out zero hm hb = absurd (not-suc-le-zero hm)
cut_start S (r ∷ b) out (suc m) hm hb = refl

cut_turn : (S : List ℕ) (b out : List (List ℕ)) (m q : ℕ) (k : List ℕ) → q + 1 < m → m ≤ length b → q < length out
    → let r = get_or b (q + 1) [] in
    take (q + 1) (set out q (keep (dot k S) (dot r S) k r)) ++ pass S (carry (dot k S) k r) (drop (q + 1 + 1) (take m b))
    ≡ take q out ++ pass S k (drop (q + 1) (take m b))
unfolding pass
cut_turn S b out m q k h l o =
    let r = get_or b (q + 1) [] in
    put_next out (pass S (carry (dot k S) k r) (drop (q + 1 + 1) (take m b))) q (keep (dot k S) (dot r S) k r) o
    ∙ ap (λ (t : List (List ℕ)). take q out ++ pass S k t) (sym (rest_first b m (q + 1) [] h l))

pub turn_kept : (S : List ℕ) (b out : List (List ℕ)) (m q : ℕ) (k : List ℕ) → q + 1 < m → m ≤ length b → q < length out → dot k S ≡ 0
    → take (q + 1) (set out q k) ++ pass S (get_or b (q + 1) []) (drop (q + 1 + 1) (take m b)) ≡ take q out ++ pass S k (drop (q + 1) (take m b))
unfolding keep carry
turn_kept S b out m q k h l o e =
    let r = get_or b (q + 1) [] in
    ap (λ (x : ℕ). take (q + 1) (set out q (keep x (dot r S) k r)) ++ pass S (carry x k r) (drop (q + 1 + 1) (take m b))) (sym e)
    ∙ cut_turn S b out m q k h l o

pub turn_mixed : (S : List ℕ) (b out : List (List ℕ)) (m q x y : ℕ) (k v : List ℕ) → q + 1 < m → m ≤ length b → q < length out
    → x ≡ dot k S → y ≡ dot (get_or b (q + 1) []) S → (x ≡ 0 → ⊥) → v ≡ mix x (get_or b (q + 1) []) y k
    → take (q + 1) (set out q v) ++ pass S k (drop (q + 1 + 1) (take m b)) ≡ take q out ++ pass S k (drop (q + 1) (take m b))
turn_mixed S b out m q x y k v h l o ex ey n e =
    let r = get_or b (q + 1) [] in
    let w : v ≡ keep (dot k S) (dot r S) k r = e ∙ sym (keep_mix x y k r n) ∙ ap₂ (λ (i j : ℕ). keep i j k r) ex ey in
    let d : k ≡ carry (dot k S) k r = sym (carry_same x k r n) ∙ ap (λ (i : ℕ). carry i k r) ex in
    ap₂ (λ (a c : List ℕ). take (q + 1) (set out q a) ++ pass S c (drop (q + 1 + 1) (take m b))) w d
    ∙ cut_turn S b out m q k h l o

pub cut_end : (S : List ℕ) (b out : List (List ℕ)) (m q : ℕ) (k : List ℕ) (C : List (List ℕ)) → m ≤ q + 1
    → take q out ++ pass S k (drop (q + 1) (take m b)) ≡ C → take q out ≡ C
unfolding pass
cut_end S b out m q k C h e =
    sym (append-nil (take q out)) ∙ ap (λ (t : List (List ℕ)). take q out ++ pass S k t) (sym (rest_none b m (q + 1) h)) ∙ e

-- ---- from one list of sums to the next

tail_drop : (j : ℕ) (s : List ℕ) → tail (drop j s) ≡ drop (suc j) s
tail_drop zero [] = refl
tail_drop zero (x ∷ s) = refl
tail_drop (suc j) [] = refl
tail_drop (suc j) (x ∷ s) = tail_drop j s

cut_all_suc : (n : ℕ) (S : List ℕ) (B : List (List ℕ)) → cut_all (suc n) S B ≡ cut_all n (tail S) (cut S B)
unfolding cut_all
cut_all_suc n S B = refl

pub locate_turn : (s : List ℕ) (b d : List (List ℕ)) (j : ℕ) → j < 8 → take (8 - j) d ≡ cut (drop j s) (take (9 - j) b)
    → cut_all (8 - (j + 1)) (drop (j + 1) s) (take (9 - (j + 1)) d) ≡ cut_all (8 - j) (drop j s) (take (9 - j) b)
locate_turn s b d j h e =
    let n = 8 - (j + 1) in
    let p : 8 - j ≡ suc n = omega arith in
    let q : 9 - (j + 1) ≡ 8 - j = omega arith in
    ap₂ (λ (S : List ℕ) (B : List (List ℕ)). cut_all n S B)
    (ap (λ (i : ℕ). drop i s) (add-one j) ∙ sym (tail_drop j s)) (ap (λ (i : ℕ). take i d) q ∙ e)
    ∙ sym (cut_all_suc n (drop j s) (take (9 - j) b))
    ∙ ap (λ (i : ℕ). cut_all i (drop j s) (take (9 - j) b)) (sym p)

first_take : (b : List (List ℕ)) → first (take 1 b) ≡ get_or b 0 []
first_take [] = refl
first_take (r ∷ b) = refl

pub locate_end : (s : List ℕ) (b : List (List ℕ)) (j : ℕ) → j ≡ 8 → cut_all (8 - j) (drop j s) (take (9 - j) b) ≡ cut_all 8 s (units 0 9)
    → get_or b 0 [] ≡ error_locator s
unfolding error_locator cut_all
locate_end s b j h e = sym (first_take b) ∙ ap first (sym (ap (λ (i : ℕ). cut_all (8 - i) (drop i s) (take (9 - i) b)) h) ∙ e)

-- ---- what the sums make of a row: the sum of nine products

-- the sum of a list
unfoldable pub total : List ℕ → ℕ
total [] = 0
total (x ∷ xs) = bit_xor x (total xs)

-- what a fold over the list from its end makes
pub total_back : (p : List ℕ) → fold (λ (sum x : ℕ). bit_xor x sum) 0 (reverse p) ≡ total p
unfolding total
total_back [] = refl
total_back (x ∷ p) =
    let f : ℕ → ℕ → ℕ = λ sum y. bit_xor y sum in
    ap (fold f 0) (reverse-cons x p) ∙ fold-append f 0 (reverse p) (x ∷ []) ∙ ap (bit_xor x) (total_back p)

total_dot : (r S p : List ℕ) → length p ≡ length r → length r ≤ length S
    → ((i : ℕ) → i < length r → get_or p i 0 ≡ times (get_or r i 0) (get_or S i 0)) → total p ≡ dot r S
unfolding total dot
total_dot [] S [] l h f = refl
total_dot [] S (y ∷ p) l h f = absurd (suc-ne-zero (length p) l)
total_dot (x ∷ r) S [] l h f = absurd (suc-ne-zero (length r) (sym l))
total_dot (x ∷ r) [] (y ∷ p) l h f = absurd (not-suc-le-zero h)
total_dot (x ∷ r) (s ∷ S) (y ∷ p) l h f =
    ap₂ bit_xor (f 0 (omega arith)) (total_dot r S p (suc_inj l) (le_of_suc-le-suc h) (λ i k. f (suc i) (omega (arith, k))))

pub dot_products : (r S a t p : List ℕ) → length r ≡ 9 → 9 ≤ length S → length p ≡ 16
    → ((i : ℕ) → i < 9 → get_or a i 0 ≡ get_or r i 0)
    → ((i : ℕ) → i < 9 → get_or t i 0 ≡ get_or S i 0) → ((i : ℕ) → i < 16 → get_or p i 0 ≡ times (get_or a i 0) (get_or t i 0))
    → total (take 9 p) ≡ dot r S
dot_products r S a t p lr ls lp fa ft fp =
    total_dot r S (take 9 p) (length-take-le 9 p (omega (arith, lp)) ∙ sym lr) (omega (arith, lr, ls))
    (λ i h.
    let h' : i < 9 = subst (λ (n : ℕ). i < n) lr h in
    get_or-take 9 p i 0 h' ∙ fp i (omega (arith, h')) ∙ ap₂ times (fa i h') (ft i h'))
