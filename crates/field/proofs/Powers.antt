-- Every byte but 0 is a power of 2, and so its 254th power is its inverse. That is computed over the list of the 255 powers, which stands in proofs
-- alone: no program holds it.
use mathlib.Core.Path.{◌≡◌, sym, ap, ◌∙◌}
use mathlib.Core.Bool.{Bool, cond, ◌&&◌}
use mathlib.Core.List.{List, [], ◌∷◌}
use Prim.Native.Nat.{ℕ, zero, suc, ◌+◌, ◌<◌}
use native.Mathlib.Nat.{add-zero, add-suc, suc-add, zero-add, le_of_suc-le-suc, not-suc-le-zero}
use lib.Dec.{T, eqb, ltb, eqb→eq, ltb→lt}
use lib.ListN.{get_or}
use Rattle.basics.specs.Lists.{all_below}
use Rattle.basics.proofs.Tests.{and_left, and_right, below}
use Rattle.division.specs.Doubling.{twice}
use Rattle.field.specs.Field.{double, power, times}
use Rattle.field.specs.Raised.{raised, inverse_of}
use Rattle.field.proofs.Laws.{one_times, times_zero, times_assoc, times_comm}
use Rattle.field.proofs.Raised.{raised_lt, raised_power, power_rounds}

-- n entries, the first of them a, each twice the one before
unfoldable pub doublings : ℕ → ℕ → List ℕ
doublings a zero = []
doublings a (suc n) = a ∷ doublings (double a) n

-- the 255 powers of 2
unfoldable pub powers : List ℕ
powers = doublings 1 255

-- the place of the first entry that is a; the length where there is none
unfoldable pub place_of : ℕ → List ℕ → ℕ
place_of a [] = 0
place_of a (x ∷ xs) = cond (eqb a x) 0 (suc (place_of a xs))

-- the exponent of the power that a byte is
unfoldable pub logarithm : ℕ → ℕ
logarithm a = place_of a powers

doublings_at : (i n k : ℕ) → k < n → get_or (doublings (power i) n) k 0 ≡ power (i + k)
unfolding doublings power
doublings_at i zero k h = absurd (not-suc-le-zero h)
doublings_at i (suc n) zero h = ap power (sym (add-zero i))
doublings_at i (suc n) (suc k) h = doublings_at (suc i) n k (le_of_suc-le-suc h) ∙ ap power (suc-add i k ∙ sym (add-suc i k))

pub power_at : (k : ℕ) → k < 255 → get_or powers k 0 ≡ power k
unfolding powers power
power_at k h = doublings_at 0 255 k h ∙ ap power (zero-add k)

-- every byte but 0 stands among the powers: computed
logarithm_test : ℕ → Bool
logarithm_test n = ltb (logarithm (suc n)) 255 && eqb (get_or powers (logarithm (suc n)) 0) (suc n)

logarithm_tests : T (all_below 255 logarithm_test)
unfolding logarithm_test logarithm place_of powers doublings double twice
logarithm_tests = tt

pub logarithm_of : (a : ℕ) → 0 < a → a < 256 → (logarithm a < 255) × (power (logarithm a) ≡ a)
unfolding logarithm_test
logarithm_of zero p h = absurd (not-suc-le-zero p)
logarithm_of (suc n) p h =
    let t = below 255 logarithm_test logarithm_tests n (le_of_suc-le-suc h) in
    let k = logarithm (suc n) in
    let l : k < 255 = ltb→lt k 255 (and_left (ltb k 255) (eqb (get_or powers k 0) (suc n)) t) in
    (l, sym (power_at k l) ∙ eqb→eq (get_or powers k 0) (suc n) (and_right (ltb k 255) (eqb (get_or powers k 0) (suc n)) t))

-- ---- the inverse: a byte but 0 is 2 to the power k, and its 255th power is 2 to the power 255 k

pub inverse_lt : (a : ℕ) → inverse_of a < 256
unfolding inverse_of
inverse_lt a = raised_lt a 254

pub inverse_times : (a : ℕ) → 0 < a → a < 256 → times (inverse_of a) a ≡ 1
unfolding inverse_of raised
inverse_times a p h =
    let k = logarithm a in
    times_comm (raised a 254) a (raised_lt a 254) h
    ∙ ap (λ (x : ℕ). raised x 255) (sym (logarithm_of a p h).1) ∙ raised_power k 255 ∙ power_rounds k

pub no_zero_divisors : (a b : ℕ) → 0 < a → a < 256 → b < 256 → times a b ≡ 0 → b ≡ 0
no_zero_divisors a b p ha hb e =
    let i = inverse_of a in
    sym (one_times b hb) ∙ ap (λ x. times x b) (sym (inverse_times a p ha)) ∙ times_assoc i a b (inverse_lt a) ha hb ∙ ap (times i) e ∙ times_zero i
