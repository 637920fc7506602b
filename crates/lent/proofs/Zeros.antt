-- The bytes of a list, gathered bit by bit, are 0 exactly where each of them is.
use mathlib.Core.Path.{◌≡◌, refl, ap, ap₂, ◌∙◌}
use mathlib.Core.List.{List, [], ◌∷◌}
use Prim.Native.Nat.{ℕ, zero, suc}
use native.Mathlib.Omega.{arith}
use lib.Bits.{bit_or}
use lib.Dec.{eqb}
use lib.ListN.{length}
use borrow.Author.Tests.{eqb-true, eq-eqb}
use Rattle.std.specs.List.{fold}
use Rattle.std.proofs.lemmas.Nat.{le_or_l, le_or_r}
use Rattle.basics.specs.Lists.{zeros, same}
use Rattle.basics.proofs.Tests.{is_same}

abbrev gathered : ℕ → List ℕ → ℕ
gathered a l = fold (λ all byte. bit_or all byte) a l

none_gathered : (n : ℕ) → gathered 0 (zeros n) ≡ 0
none_gathered zero = refl
none_gathered (suc n) = none_gathered n

all_zero : (a : ℕ) (l : List ℕ) → gathered a l ≡ 0 → (a ≡ 0) × (l ≡ zeros (length l))
all_zero a [] e = (e, refl)
all_zero a (x ∷ l) e =
    let rest = all_zero (bit_or a x) l e in
    (omega (arith, le_or_l a x, rest.0), ap₂ (λ (y : ℕ) (m : List ℕ). y ∷ m) (omega (arith, le_or_r a x, rest.0)) rest.1)

pub zeros_test : (l : List ℕ) → eqb (fold (λ all byte. bit_or all byte) 0 l) 0 ≡ same l (zeros (length l))
zeros_test l =
    let n = length l in
    is_same (eqb (gathered 0 l) 0) l (zeros n) (λ t. (all_zero 0 l (eqb-true (gathered 0 l) 0 t)).1)
    (λ e. eq-eqb (gathered 0 l) 0 (ap (gathered 0) e ∙ none_gathered n))
