-- Lists of numbers, as every crate speaks of them: what a buffer holds, or the coefficients of a polynomial.
use Rattle.std.specs.Prelude.{Bool, true, false, ◌&&◌, List, [], ◌∷◌, ℕ, zero, suc, ◌<◌, eqb, replicate}
use Rattle.std.proofs.Math.Option.{Option, none, some}

-- n zeros
abbrev pub zeros : ℕ → List ℕ
zeros n = replicate n 0

-- each number of the list is a byte
abbrev pub Bytes : List ℕ → Type 0
Bytes [] = Unit {0}
Bytes (b ∷ bs) = (b < 256) × Bytes bs

-- f at the n numbers from i on: f i, f (i + 1), ..
unfoldable pub entries : (ℕ → ℕ) → ℕ → ℕ → List ℕ
entries f i zero = []
entries f i (suc n) = f i ∷ entries f (suc i) n

-- whether two lists are the same
unfoldable pub same : List ℕ → List ℕ → Bool
same [] [] = true
same [] (y ∷ ys) = false
same (x ∷ xs) [] = false
same (x ∷ xs) (y ∷ ys) = eqb x y && same xs ys

-- whether a test passes at each number below n
abbrev pub all_below : ℕ → (ℕ → Bool) → Bool
all_below zero f = true
all_below (suc n) f = f n && all_below n f

-- whether there is one
abbrev pub is_some : {A : Type 0} → Option A → Bool
is_some none = false
is_some (some x) = true
