-- The generator's 17 coefficients are the product of its 16 factors: antt computes the roots, each from the one before, and then the product.
use mathlib.Core.Path.{◌≡◌, refl, sym, ap, ap₂, ◌∙◌}
use mathlib.Core.List.{List, [], ◌∷◌, tail}
use Prim.Native.Nat.{ℕ, zero, suc, ◌+◌, ◌*◌}
use native.Mathlib.Omega.{arith}
use lib.Dec.{lit<}
use Rattle.basics.specs.Lists.{Bytes}
use Rattle.division.specs.Doubling.{twice}
use Rattle.field.specs.Field.{power, times, sum_over, double}
use Rattle.field.proofs.Laws.{power_add}
use Rattle.division.specs.Division.{plus, scale, product}
use Rattle.reed_solomon.specs.Code.{factors, generator}

abbrev pub coefficients : List ℕ
coefficients = 1 ∷ 165 ∷ 105 ∷ 27 ∷ 159 ∷ 104 ∷ 152 ∷ 101 ∷ 74 ∷ 101 ∷ 152 ∷ 104 ∷ 159 ∷ 27 ∷ 105 ∷ 165 ∷ 1 ∷ []

pub coefficients_are_bytes : Bytes (tail coefficients)
coefficients_are_bytes = (
  lit< tt,
  (
    lit< tt,
    (
      lit< tt,
      (
        lit< tt,
        (
          lit< tt,
          (
            lit< tt,
            (
              lit< tt,
              (
                lit< tt,
                (lit< tt, (lit< tt, (lit< tt, (lit< tt, (lit< tt, (lit< tt, (lit< tt, (lit< tt, tt)))))))),
              ),
            ),
          ),
        ),
      ),
    ),
  ),
)

-- ---- the roots, counted from the first: as powers of 2 they would take some 1,400 doublings each

unfoldable pub root_at : ℕ → ℕ
root_at zero = 120
root_at (suc j) = times (power 11) (root_at j)

first_root : power 1320 ≡ 120
unfolding power double twice
first_root = refl

pub root_is : (j : ℕ) → power (11 * (120 + j)) ≡ root_at j
unfolding root_at
root_is zero = first_root
root_is (suc j) =
    let next : 11 * (120 + suc j) ≡ 11 + 11 * (120 + j) = omega arith in
    ap power next ∙ sym (power_add 11 (11 * (120 + j))) ∙ ap (times (power 11)) (root_is j)

-- ---- the product

root_factors : ℕ → ℕ → List ℕ
root_factors zero j = 1 ∷ []
root_factors (suc n) j = product times (1 ∷ root_at j ∷ []) (root_factors n (suc j))

by_roots : (n j : ℕ) → factors n (120 + j) ≡ root_factors n j
unfolding factors root_factors
by_roots zero j = refl
by_roots (suc n) j =
    let next : suc (120 + j) ≡ 120 + suc j = omega arith in
    ap₂ (λ (r : ℕ) (l : List ℕ). product times (1 ∷ r ∷ []) l) (root_is j) (ap (factors n) next ∙ by_roots n (suc j))

computed : root_factors 16 0 ≡ coefficients
unfolding root_factors root_at product plus scale power times sum_over double twice
computed = refl

pub generator_is : generator ≡ coefficients
unfolding generator
generator_is = by_roots 16 0 ∙ computed
