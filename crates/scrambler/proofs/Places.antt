-- The places of the taps that are set: a sum over them is the recurrence's; the code's loops.
use mathlib.Core.Path.{◌≡◌, refl, sym, ap, ap₂, ◌∙◌, subst}
use mathlib.Core.List.{List, [], ◌∷◌, ◌++◌, append_assoc, append-nil}
use Prim.Native.Nat.{ℕ, zero, suc, ◌+◌, ◌-◌, ◌*◌, ◌/◌, ◌%◌, ◌≤◌, ◌<◌}
use native.Mathlib.Nat.{not-suc-le-zero, le_of_suc-le-suc, mod-lt, add-zero, zero-add, add-suc, suc-add, zero-mul, one-mul, mul-le-mul_left}
use native.Mathlib.Numerals.{add-one}
use native.Mathlib.Omega.{arith}
use borrow.Author.Count.{below_more}
use Rattle.std.proofs.lemmas.List.{get_or-replicate}
use lib.Dec.{lit<}
use lib.Bits.{bit_xor, xor_zero_r}
use lib.ListN.{length, get_or, take, drop, set, replicate, length-set, length-replicate, drop_of_length-le}
use lib.Seq.{drop-cons, take-suc-set, take-set-le, get_or-set_same, get_or-set_other}
use Rattle.basics.proofs.Xor.{bit_cases, xor_assoc}
use Rattle.basics.specs.Numbers.{digit}
use Rattle.scrambler.specs.Keys.{with_place, places_from, AllBelow, sum_at, FollowsBy, Sums}
use Rattle.scrambler.proofs.Stages.{digit_zero, digit_suc}
use Rattle.scrambler.proofs.Square.{total, total_same, Follows}

-- ---- places are below 25

below_with : {n p : ℕ} {l : List ℕ} → p < n → AllBelow n l → AllBelow n (p ∷ l)
below_with {n} {p} {l} h b = record { at = go }
  where
    go : (m : ℕ) → m < length (p ∷ l) → get_or (p ∷ l) m 0 < n
    go zero k = h
    go (suc m) k = b.at m (le_of_suc-le-suc k)

below_rest : {n p : ℕ} {l : List ℕ} → AllBelow n (p ∷ l) → AllBelow n l
below_rest b = record { at = λ m h. b.at (suc m) (omega arith) }

pub places_below : (n i taps : ℕ) → AllBelow (i + n) (places_from n i taps)
unfolding places_from
places_below zero i taps = record { at = λ m h. absurd (not-suc-le-zero h) }
places_below (suc n) i taps =
    let rest = places_from n (suc i) (taps / 2) in
    let below : AllBelow (i + suc n) rest =
    subst (λ (m : ℕ). AllBelow m rest) (suc-add i n ∙ sym (add-suc i n)) (places_below n (suc i) (taps / 2)) in
    bit_cases (λ u. AllBelow (i + suc n) (with_place u i rest)) below (below_with (omega arith) below) (taps % 2) (mod-lt taps (lit< tt))

pub all_below_lem : (taps : ℕ) {places : List ℕ} → places ≡ places_from 25 0 taps → AllBelow 25 places
all_below_lem taps places_are = subst (AllBelow 25) (sym places_are) (places_below 25 0 taps)

-- n numbers from the one at a place on are among 25 n
pub place_room : (n p : ℕ) → p < 25 → n * p + n ≤ 25 * n
place_room n p h = let last : n * (p + 1) ≤ n * 25 = mul-le-mul_left n (omega arith) in omega arith

-- ---- a loop that writes them

place_turn : (l p : List ℕ) (count i u : ℕ) → count < length l → u < 2 → take (count + u) (set l count i) ++ p ≡ take count l ++ with_place u i p
place_turn l p count i u h =
    bit_cases (λ u. take (count + u) (set l count i) ++ p ≡ take count l ++ with_place u i p)
    (ap (λ (q : List ℕ). q ++ p) (ap (λ (n : ℕ). take n (set l count i)) (add-zero count) ∙ take-set-le count l count i (omega arith)))
    (ap (λ (q : List ℕ). q ++ p) (ap (λ (n : ℕ). take n (set l count i)) (add-one count) ∙ take-suc-set l count i h) ∙ append_assoc (take count l) (i ∷ []) p)
    u

-- those of i taps are written, and `rest` has the taps that remain
pub record Listed (taps : ℕ) (places : List ℕ) (count i rest : ℕ) : Type 0 where
  pub few : count ≤ i
  pub long : length places ≡ 25
  pub so_far : take count places ++ places_from (25 - i) i rest ≡ places_from 25 0 taps

pub listed_start : {taps : ℕ} {places : List ℕ} → length places ≡ 25 → Listed taps places 0 0 taps
listed_start long = record { few = omega arith; long = long; so_far = refl }

module _ {taps count i rest : ℕ} {places : List ℕ} (s : Listed taps places count i rest) where
  pub listed_turn : i < 25 → Listed taps (set places count i) (count + rest % 2) (i + 1) (rest / 2)
  unfolding places_from
  listed_turn h =
      let n = 25 - (i + 1) in
      let e : 25 - i ≡ suc n = omega arith in
      record {
        few = omega (arith, s.few);
        long = length-set places count i ∙ s.long;
        so_far = place_turn places (places_from n (i + 1) (rest / 2)) count i (rest % 2) (omega (arith, s.few, s.long)) (mod-lt rest (lit< tt))
            ∙ ap (λ (j : ℕ). take count places ++ with_place (rest % 2) i (places_from n j (rest / 2))) (add-one i)
            ∙ ap (λ (m : ℕ). take count places ++ places_from m i rest) (sym e)
            ∙ s.so_far;
      }

  pub listed_end : 25 ≤ i → take count places ≡ places_from 25 0 taps
  unfolding places_from
  listed_end h =
      let e : 25 - i ≡ 0 = omega arith in
      sym (ap (λ (m : ℕ). take count places ++ places_from m i rest) e ∙ append-nil (take count places)) ∙ s.so_far

-- ---- a loop that adds what stands at them: m places are done

pub record Summed (places : List ℕ) (f : ℕ → ℕ) (sum m : ℕ) : Type 0 where
  pub so_far : bit_xor sum (sum_at (drop m places) f) ≡ sum_at places f

pub summed_start : {places : List ℕ} {f : ℕ → ℕ} → Summed places f 0 0
summed_start = record { so_far = refl }

module _ {places : List ℕ} {f : ℕ → ℕ} {sum m : ℕ} (s : Summed places f sum m) where
  pub summed_turn : m < length places → Summed places f (bit_xor sum (f (get_or places m 0))) (m + 1)
  unfolding sum_at
  summed_turn h =
      let x = f (get_or places m 0) in
      record {
        so_far = xor_assoc sum x (sum_at (drop (m + 1) places) f)
            ∙ ap (λ (n : ℕ). bit_xor sum (bit_xor x (sum_at (drop n places) f))) (add-one m)
            ∙ ap (λ (q : List ℕ). bit_xor sum (sum_at q f)) (sym (drop-cons places m 0 h))
            ∙ s.so_far;
      }

  pub summed_end : length places ≤ m → sum ≡ sum_at places f
  unfolding sum_at
  summed_end h = sym (ap (λ (q : List ℕ). bit_xor sum (sum_at q f)) (drop_of_length-le places h) ∙ xor_zero_r sum) ∙ s.so_far

-- ---- N such sums: those before the i-th have m + 1 places, the others m

pub record Summing (n m i : ℕ) (places numbers sums : List ℕ) : Type 0 where
  pub long : length sums ≡ n
  pub done : (k : ℕ) → k < i → k < n → Summed places (λ p. get_or numbers (k + n * p) 0) (get_or sums k 0) (m + 1)
  pub left : (k : ℕ) → i ≤ k → k < n → Summed places (λ p. get_or numbers (k + n * p) 0) (get_or sums k 0) m

pub summing_start : {n : ℕ} {places numbers : List ℕ} → Summing n 0 0 places numbers (replicate n 0)
summing_start {n} {places} {numbers} = record {
  long = length-replicate n 0;
  done = λ k h hk. absurd (not-suc-le-zero h);
  left = λ k h hk. subst (λ (x : ℕ). Summed places (λ p. get_or numbers (k + n * p) 0) x 0) (sym (get_or-replicate n k 0 0 hk)) summed_start;
}

module _ {n m i : ℕ} {places numbers sums : List ℕ} (s : Summing n m i places numbers sums) where
  pub summing_turn : i < n → m < length places
      → Summing n m (i + 1) places numbers (set sums i (bit_xor (get_or sums i 0) (get_or numbers (n * get_or places m 0 + i) 0)))
  summing_turn hi hm =
      let x = bit_xor (get_or sums i 0) (get_or numbers (n * get_or places m 0 + i) 0) in
      let P : ℕ → ℕ → ℕ → Type 0 = λ k y j. Summed places (λ p. get_or numbers (k + n * p) 0) y j in
      let there : i + n * get_or places m 0 ≡ n * get_or places m 0 + i = omega arith in
      let new : P i (get_or (set sums i x) i 0) (m + 1) =
      subst (λ (y : ℕ). P i y (m + 1))
      (ap (λ (j : ℕ). bit_xor (get_or sums i 0) (get_or numbers j 0)) there ∙ sym (get_or-set_same sums i x 0 (omega (arith, s.long))))
      (summed_turn (s.left i (omega arith) hi) hm) in
      record {
        long = length-set sums i x ∙ s.long;
        done = λ k h hk. below_more (λ k. k < n → P k (get_or (set sums i x) k 0) (m + 1)) i
            (λ k h hk. subst (λ (y : ℕ). P k y (m + 1)) (sym (get_or-set_other sums i k x 0 (omega arith))) (s.done k h hk)) (λ hk. new) k h hk;
        left = λ k h hk. subst (λ (y : ℕ). P k y m) (sym (get_or-set_other sums i k x 0 (omega arith))) (s.left k (omega arith) hk);
      }

  pub summing_next : n ≤ i → Summing n (m + 1) 0 places numbers sums
  summing_next h = record { long = s.long; done = λ k h hk. absurd (not-suc-le-zero h); left = λ k hk lt. s.done k (omega arith) lt }

  pub summing_end : i ≤ 0 → length places ≤ m → Sums n places numbers sums
  summing_end none h = record { at = λ k hk. summed_end (s.left k (omega arith) hk) h }

-- ---- a sum at the places is that of the recurrence

pub sum_same : (n : ℕ) (l : List ℕ) (f g : ℕ → ℕ) → AllBelow n l → ((i : ℕ) → i < n → f i ≡ g i) → sum_at l f ≡ sum_at l g
unfolding sum_at
sum_same n [] f g b e = refl
sum_same n (p ∷ l) f g b e = ap₂ bit_xor (e p (b.at 0 (omega arith))) (sum_same n l f g (below_rest b) e)

with_place_lem : (l : List ℕ) (f : ℕ → ℕ) (i u : ℕ) → u < 2 → sum_at (with_place u i l) f ≡ bit_xor (u * f i) (sum_at l f)
unfolding sum_at
with_place_lem l f i =
    bit_cases (λ u. sum_at (with_place u i l) f ≡ bit_xor (u * f i) (sum_at l f))
    (ap (λ (x : ℕ). bit_xor x (sum_at l f)) (sym (zero-mul (f i)))) (ap (λ (x : ℕ). bit_xor x (sum_at l f)) (sym (one-mul (f i))))

places_total : (n i taps : ℕ) (f : ℕ → ℕ) → sum_at (places_from n i taps) f ≡ total n (λ m. digit m taps * f (i + m))
unfolding places_from total sum_at
places_total zero i taps f = refl
places_total (suc n) i taps f =
    with_place_lem (places_from n (suc i) (taps / 2)) f i (taps % 2) (mod-lt taps (lit< tt))
    ∙ ap₂ bit_xor (ap₂ (λ (x j : ℕ). x * f j) (sym (digit_zero taps)) (sym (add-zero i)))
    (places_total n (suc i) (taps / 2) f
    ∙ total_same n (λ m. digit m (taps / 2) * f (suc i + m)) (λ m. digit (suc m) taps * f (i + suc m))
    (λ m. ap₂ (λ (x j : ℕ). x * f j) (digit_suc m taps) (suc-add i m ∙ sym (add-suc i m))))

places_sum : (taps : ℕ) (f : ℕ → ℕ) → total 25 (λ i. digit i taps * f i) ≡ sum_at (places_from 25 0 taps) f
places_sum taps f =
    sym (places_total 25 0 taps f
    ∙ total_same 25 (λ m. digit m taps * f (0 + m)) (λ i. digit i taps * f i) (λ m. ap (λ (j : ℕ). digit m taps * f j) (zero-add m)))

pub follows_at : (taps : ℕ) (v : ℕ → ℕ) → Follows 25 (λ i. digit i taps) v → FollowsBy 1 (places_from 25 0 taps) v
follows_at taps v f k = f k ∙ total_same 25 (λ i. digit i taps * v (k + i)) (λ i. digit i taps * v (k + 1 * i))
    (λ i. ap (λ (j : ℕ). digit i taps * v (k + j)) (sym (one-mul i))) ∙ places_sum taps (λ i. v (k + 1 * i))

pub follows_by_two : (taps : ℕ) (v : ℕ → ℕ) → ((k : ℕ) → v (k + 25 + 25) ≡ total 25 (λ i. digit i taps * v (k + i + i))) → FollowsBy 2 (places_from 25 0 taps) v
follows_by_two taps v f k =
    let e : k + 50 ≡ k + 25 + 25 = omega arith in
    ap v e ∙ f k
    ∙ total_same 25 (λ i. digit i taps * v (k + i + i)) (λ i. digit i taps * v (k + 2 * i))
    (λ i. let e : k + i + i ≡ k + 2 * i = omega arith in ap (λ (j : ℕ). digit i taps * v j) e)
    ∙ places_sum taps (λ i. v (k + 2 * i))
