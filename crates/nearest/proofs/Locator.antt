-- The error locator: nine coefficients, not all 0, that kill the eight lists of sums.
use mathlib.Core.Path.{◌≡◌, refl, sym, ap, ◌∙◌}
use mathlib.Core.List.{List, [], ◌∷◌, tail}
use Prim.Native.Nat.{ℕ, zero, suc, ◌+◌, ◌<◌}
use native.Mathlib.Nat.{zero-add, suc-add, suc_inj, suc-ne-zero, le_refl, zero-lt-suc}
use native.Mathlib.Omega.{arith}
use lib.Dec.{lit<}
use lib.ListN.{length}
use Rattle.basics.specs.Lists.{zeros, Bytes}
use Rattle.basics.proofs.Lists.{zeros_bytes}
use Rattle.field.specs.Field.{times}
use Rattle.division.proofs.Register.{plus_length, scale_length}
use Rattle.division.specs.Division.{scale}
use Rattle.reed_solomon.proofs.Places.{AllZero}
use Rattle.nearest.specs.Search.{carry, cut, cut_all, dot, error_locator, first, mix, pass, unit, units}
use Rattle.nearest.proofs.Polynomial.{Kills}
use Rattle.nearest.proofs.Rising.{Rising, Top, cut_all_rising}
use Rattle.nearest.proofs.Rows.{Closed, Each, cut_all_each, cut_all_kills}

-- ---- how many rows are left

pass_length : (S c : List ℕ) (bs : List (List ℕ)) → length (pass S c bs) ≡ length bs
unfolding pass
pass_length S c [] = refl
pass_length S c (b ∷ bs) = ap suc (pass_length S (carry (dot c S) c b) bs)

cut_length : (S : List ℕ) (B : List (List ℕ)) (m : ℕ) → length B ≡ suc m → length (cut S B) ≡ m
unfolding cut
cut_length S [] m e = absurd (suc-ne-zero m (sym e))
cut_length S (c ∷ bs) m e = pass_length S c bs ∙ suc_inj e

cut_all_length : (n : ℕ) (S : List ℕ) (B : List (List ℕ)) (m : ℕ) → length B ≡ n + m → length (cut_all n S B) ≡ m
unfolding cut_all
cut_all_length zero S B m e = e ∙ zero-add m
cut_all_length (suc n) S B m e = cut_all_length n (tail S) (cut S B) m (cut_length S B (n + m) (e ∙ suc-add n m))

-- ---- the start: 1, x, x^2, ..

zeros_zero : (n : ℕ) → AllZero (zeros n)
zeros_zero zero = tt
zeros_zero (suc n) = (refl, zeros_zero n)

unit_top : (k n : ℕ) → Top k (unit k n)
unit_top zero n = (suc-ne-zero 0, zeros_zero n)
unit_top (suc k) n = unit_top k n

unit_bytes : (k n : ℕ) → Bytes (unit k n)
unit_bytes zero n = (lit< tt, zeros_bytes n)
unit_bytes (suc k) n = (lit< tt, unit_bytes k n)

units_rising : (k n : ℕ) → Rising k (units k n)
units_rising k zero = tt
units_rising k (suc n) = (k, le_refl k, unit_top k n, units_rising (suc k) n)

units_bytes : (k n : ℕ) → Each Bytes (units k n)
units_bytes k zero = tt
units_bytes k (suc n) = (unit_bytes k n, units_bytes (suc k) n)

-- ---- the polynomial that is left

abbrev Nine : List ℕ → Type 0
Nine r = length r ≡ 9

mix_nine : Closed Nine
unfolding mix
mix_nine x y b c hx hy hb hc = plus_length (scale times x b) (scale times y c) 9 (scale_length times x b ∙ hb) (scale_length times y c ∙ hc)

first_each : (Q : List ℕ → Type 0) (B : List (List ℕ)) (m : ℕ) → length B ≡ suc m → Each Q B → Q (first B)
first_each Q [] m e q = absurd (suc-ne-zero m (sym e))
first_each Q (b ∷ bs) m e q = q.0

first_top : (B : List (List ℕ)) (m : ℕ) → length B ≡ suc m → Rising 0 B → (k : ℕ) × Top k (first B)
first_top [] m e r = absurd (suc-ne-zero m (sym e))
first_top (b ∷ bs) m e r = (r.0, r.2)

pub top_below : (k : ℕ) (L : List ℕ) → Top k L → k < length L
top_below k [] t = absurd t
top_below zero (l ∷ L) t = zero-lt-suc (length L)
top_below (suc k) (l ∷ L) t = omega (arith, top_below k L t)

-- ---- the error locator

pub locator_long : (S : List ℕ) → Bytes S → length (error_locator S) ≡ 9
unfolding error_locator
locator_long S hS =
    let C = cut_all 8 S (units 0 9) in
    first_each Nine C 0 (cut_all_length 8 S (units 0 9) 1 refl)
    (cut_all_each Nine mix_nine 8 S (units 0 9) hS (refl, (refl, (refl, (refl, (refl, (refl, (refl, (refl, (refl, tt))))))))))

pub locator_kills : (S : List ℕ) → Bytes S → Bytes (error_locator S) × Kills 8 (error_locator S) S
unfolding error_locator
locator_kills S hS =
    first_each (λ r. Bytes r × Kills 8 r S) (cut_all 8 S (units 0 9)) 0 (cut_all_length 8 S (units 0 9) 1 refl)
    (cut_all_kills 8 S (units 0 9) hS (units_bytes 0 9))

pub locator_top : (S : List ℕ) → Bytes S → (k : ℕ) × Top k (error_locator S)
unfolding error_locator
locator_top S hS =
    first_top (cut_all 8 S (units 0 9)) 0 (cut_all_length 8 S (units 0 9) 1 refl) (cut_all_rising 8 S (units 0 9) 0 hS (units_bytes 0 9) (units_rising 0 9))
