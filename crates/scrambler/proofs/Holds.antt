-- Lists whose first numbers are those of a sequence: what the loops of src/levels.rt come to.
use mathlib.Core.Path.{◌≡◌, refl, sym, ap, ap₂, ◌∙◌, subst}
use mathlib.Core.List.{List, ◌++◌}
use mathlib.Core.Logic.{inl, inr}
use Prim.Native.Nat.{ℕ, ◌+◌, ◌-◌, ◌*◌, ◌^◌, ◌≤◌, ◌<◌}
use native.Mathlib.Nat.{not-suc-le-zero, zero-add, one-mul, lt_of_lt_of_le, mul-le-mul, mul-le-mul_left}
use native.Mathlib.Omega.{arith}
use lib.Arith.{digits_lt}
use lib.ListN.{length, get_or, set, take, drop, length-drop, get_or-append}
use lib.Seq.{get_or-set_other, get_or-take, get_or-drop, length-take-le}
use Rattle.std.proofs.lemmas.List.{get_or-append_right}
use borrow.Rule.Slice.PartMut.{mid_of, post_of, put_mid, same_len_mid}
use Rattle.basics.proofs.Fill.{stored_more}
use Rattle.scrambler.specs.Scrambler.{key_byte}
use Rattle.scrambler.specs.Keys.{key_number, places_from, AllBelow, sum_at, FollowsBy, Sums, Holds, Extends, pair_of, Paired, Moved}
use Rattle.basics.proofs.Tests.{lt_or_ge}
use Rattle.scrambler.proofs.Places.{place_room, sum_same, follows_at, follows_by_two}
use Rattle.scrambler.proofs.Follows.{level, level_follows, words_from, words_squared, level_join, key_number_lt}

-- ---- one number more

pub holds_none : {v : ℕ → ℕ} {l : List ℕ} → Holds v 0 l
holds_none = record { at = λ i h. absurd (not-suc-le-zero h) }

pub holds_more : {v : ℕ → ℕ} {l : List ℕ} {i x : ℕ} → Holds v i l → i < length l → x ≡ v i → Holds v (i + 1) (set l i x)
holds_more {v} {l} {i} {x} h hi e = record { at = stored_more v l i x h.at hi e }

pub holds_less : {v : ℕ → ℕ} {l : List ℕ} {m n : ℕ} → m ≤ n → Holds v n l → Holds v m l
holds_less le h = record { at = λ i hi. h.at i (omega arith) }

-- more numbers behind them
pub holds_before : {v : ℕ → ℕ} {l : List ℕ} {n : ℕ} (rest : List ℕ) → n ≤ length l → Holds v n l → Holds v n (l ++ rest)
holds_before {v} {l} rest le h = record { at = λ i hi. get_or-append l rest 0 i (omega arith) ∙ h.at i hi }

pub holds_same : {v w : ℕ → ℕ} {l : List ℕ} {n : ℕ} → ((i : ℕ) → v i ≡ w i) → Holds v n l → Holds w n l
holds_same e h = record { at = λ i hi. h.at i hi ∙ e i }

pub holds_front : {v : ℕ → ℕ} {l : List ℕ} (n : ℕ) → Holds v n l → Holds v n (take n l)
holds_front {v} {l} n h = record { at = λ i hi. get_or-take n l i 0 hi ∙ h.at i hi }

-- the sum at the places of numbers that are there is the number that follows them
sum_is : (places l : List ℕ) (v f : ℕ → ℕ) (n next x : ℕ) → AllBelow 25 places → Holds v n l → ((k : ℕ) → k < 25 → f k < n)
    → v next ≡ sum_at places (λ k. v (f k)) → x ≡ sum_at places (λ k. get_or l (f k) 0) → x ≡ v next
sum_is places l v f n next x b h below follows e =
    e ∙ sum_same 25 places (λ k. get_or l (f k) 0) (λ k. v (f k)) b (λ k hk. h.at (f k) (below k hk)) ∙ sym follows

-- k numbers more
pub holds_put : {v : ℕ → ℕ} {l : List ℕ} (sums : List ℕ) (at k : ℕ) → Holds v at l → at + k ≤ length l → length sums ≡ k
    → ((i : ℕ) → i < k → get_or sums i 0 ≡ v (at + i)) → Holds v (at + k) (put_mid at k l sums)
holds_put {v} {l} sums at k h room long new =
    let front : length (take at l) ≡ at = length-take-le at l (omega arith) in
    record {
      at = λ i hi.
          elim (lt_or_ge i at) [
            | inl low ↦ get_or-append (take at l) (sums ++ post_of at k l) 0 i (omega arith) ∙ get_or-take at l i 0 low ∙ h.at i low
            | inr high ↦
                let back : at + (i - at) ≡ i = omega arith in
                get_or-append_right (take at l) (sums ++ post_of at k l) at i 0 front high
                ∙ get_or-append sums (post_of at k l) 0 (i - at) (omega arith) ∙ new (i - at) (omega arith) ∙ ap v back
          ];
    }

-- ---- `extend`: i times n numbers are new

pub record Extending (n : ℕ) (places before : List ℕ) (i : ℕ) (numbers : List ℕ) : Type 0 where
  pub long : length numbers ≡ 100
  pub so_far : (v : ℕ → ℕ) → FollowsBy n places v → Holds v (25 * n) before → Holds v (n * (i + 25)) numbers

pub extending_start : {n : ℕ} {places numbers : List ℕ} → length numbers ≡ 100 → Extending n places numbers 0 numbers
extending_start {n} long = record { long = long; so_far = λ v f h. holds_less (omega arith) h }

module _ {n i : ℕ} {places before numbers : List ℕ} (s : Extending n places before i numbers) where
  -- sums of a part of the list are sums of the list
  part_sum : {sums : List ℕ} (w j : ℕ) → w ≡ 25 * n → AllBelow 25 places → Sums n places (take w (drop (n * i) numbers)) sums → j < n
      → get_or sums j 0 ≡ sum_at places (λ p. get_or numbers (n * i + j + n * p) 0)
  part_sum w j same b e hj =
      let part = take w (drop (n * i) numbers) in
      e.at j hj
      ∙ sum_same 25 places (λ p. get_or part (j + n * p) 0) (λ p. get_or numbers (n * i + j + n * p) 0) b
      (λ p hp.
      let inside : j + n * p < w = omega (arith, place_room n p hp) in
      let there : n * i + (j + n * p) ≡ n * i + j + n * p = omega arith in
      get_or-take w (drop (n * i) numbers) (j + n * p) 0 inside ∙ get_or-drop (n * i) numbers (j + n * p) 0 ∙ ap (λ q. get_or numbers q 0) there)

  pub extending_turn : {sums : List ℕ} (k w : ℕ) → k ≡ n → w ≡ 25 * n → AllBelow 25 places → 50 * n ≤ 100 → i < 25
      → length sums ≡ length (mid_of (n * (i + 25)) k numbers) → Sums n places (take w (drop (n * i) numbers)) sums
      → Extending n places before (i + 1) (put_mid (n * (i + 25)) k numbers sums)
  extending_turn {sums} k w same wide b room hi len e =
      let more : n * (i + 1) ≤ n * 25 = mul-le-mul_left n (omega arith) in
      let inside : n * (i + 25) + k ≤ length numbers = omega (arith, s.long) in
      let size : length sums ≡ k = len ∙ length-take-le k (drop (n * (i + 25)) numbers) (omega (arith, length-drop (n * (i + 25)) numbers)) in
      record {
        long = same_len_mid (n * (i + 25)) k numbers sums len ∙ s.long;
        so_far = λ v f start.
            let there = s.so_far v f start in
            let all = holds_put sums (n * (i + 25)) k there inside size (λ j hj.
            let at : n * i + j + 25 * n ≡ n * (i + 25) + j = omega arith in
            sum_is places numbers v (λ p. n * i + j + n * p) (n * (i + 25)) (n * i + j + 25 * n) (get_or sums j 0) b there
            (λ p hp. omega (arith, place_room n p hp)) (f (n * i + j)) (part_sum w j wide b e (omega arith)) ∙ ap v at) in
            holds_less (omega arith) all;
      }

  pub extending_end : 25 ≤ i → Extends n places before numbers
  extending_end h = record {
    more = λ v f start. let enough : n * 25 ≤ n * i = mul-le-mul_left n h in holds_less (omega arith) (s.so_far v f start);
  }

-- ---- `pair`: i numbers at the front are new, and the others are as they were

pub record Replacing (v : ℕ → ℕ) (before : List ℕ) (i : ℕ) (numbers : List ℕ) : Type 0 where
  pub new : Holds v i numbers
  pub old : (j : ℕ) → i ≤ j → get_or numbers j 0 ≡ get_or before j 0

pub replacing_start : {v : ℕ → ℕ} {numbers : List ℕ} → Replacing v numbers 0 numbers
replacing_start = record { new = holds_none; old = λ j h. refl }

pub replacing_turn : {v : ℕ → ℕ} {before numbers : List ℕ} {i x : ℕ} → Replacing v before i numbers → i < length numbers → x ≡ v i
    → Replacing v before (i + 1) (set numbers i x)
replacing_turn {v} {before} {numbers} {i} {x} s h e = record {
  new = holds_more s.new h e;
  old = λ j hj. get_or-set_other numbers i j x 0 (omega arith) ∙ s.old j (omega arith);
}

pub pair_is : (unit : ℕ) {before numbers : List ℕ} {i : ℕ} → Replacing (pair_of unit before) before i numbers → pair_of unit numbers i ≡ pair_of unit before i
pair_is unit {before} {numbers} {i} s = ap₂ (λ (a b : ℕ). a * unit + b) (s.old (1 + 2 * i) (omega arith)) (s.old (2 * i) (omega arith))

pub pair_fits : (unit : ℕ) {before numbers : List ℕ} {i : ℕ} → Replacing (pair_of unit before) before i numbers → i < 25
    → ((j : ℕ) → j < 50 → get_or before j 0 < unit) → unit ≤ 2 ^ 32 → pair_of unit numbers i < 2 ^ 64
pair_fits unit {before} {numbers} {i} s h small le =
    subst (λ (x : ℕ). x < 2 ^ 64) (sym (pair_is unit s))
    (lt_of_lt_of_le (digits_lt (small (1 + 2 * i) (omega arith)) (small (2 * i) (omega arith))) (mul-le-mul le le))

-- ---- the levels

module _ (taps : ℕ) where
  byte_number : (i : ℕ) → key_byte taps i ≡ level taps 1 i
  unfolding key_number
  byte_number i = ap (key_byte taps) (sym (one-mul i)) ∙ sym (zero-add (key_byte taps (1 * i)))

  pub level_one : {l : List ℕ} → Holds (key_byte taps) 25 l → Holds (level taps 1) 25 l
  level_one h = holds_same byte_number h

  pub level_extends : (m : ℕ) {before after : List ℕ} → Extends 1 (places_from 25 0 taps) before after
      → Holds (level taps (2 ^ m)) 25 before → Holds (level taps (2 ^ m)) 50 after
  level_extends m x h =
      let v = level taps (2 ^ m) in
      x.more v (follows_at taps v (level_follows taps m)) h

  -- the next 50 words
  pub words_next : (at : ℕ) {before more after : List ℕ} → Extends 2 (places_from 25 0 taps) before more → Moved more after
      → Holds (words_from taps at) 50 before → Holds (words_from taps (at + 400)) 50 after
  words_next at x m h =
      let v = words_from taps at in
      let all = x.more v (follows_by_two taps v (words_squared taps at)) h in
      record {
        at = λ i hi.
            let e : at + 8 * (50 + i) ≡ at + 400 + 8 * i = omega arith in
            m.later.at i hi ∙ all.at (50 + i) (omega arith) ∙ ap (key_number taps 8) e;
      }

  pub level_below : (n : ℕ) {l : List ℕ} → Holds (level taps n) 50 l → (i : ℕ) → i < 50 → get_or l i 0 < 256 ^ n
  level_below n h i hi = subst (λ (x : ℕ). x < 256 ^ n) (sym (h.at i hi)) (key_number_lt taps n (n * i))

  pub level_paired : (n : ℕ) {before after : List ℕ} → Paired (256 ^ n) before after → Holds (level taps n) 50 before → Holds (level taps (n + n)) 25 after
  level_paired n p h = record {
    at = λ i hi.
        p.pairs.at i hi ∙ ap₂ (λ (a b : ℕ). a * 256 ^ n + b) (h.at (1 + 2 * i) (omega arith)) (h.at (2 * i) (omega arith)) ∙ level_join taps n i;
  }
