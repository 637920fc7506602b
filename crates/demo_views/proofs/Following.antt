-- What one block more does to the recorder's gaps and to the tuner's run.
use Rattle.std.proofs.Common.{◌≡◌, ℕ, ◌+◌, cond, eqb, List, [], ◌∷◌, ◌++◌, refl, arith}
use Rattle.demo_views.specs.Views.{due_after, gaps_from, run_from}

pub due_more : (due : ℕ) (came : List ℕ) (number : ℕ) → due_after due (came ++ number ∷ []) ≡ number + 1
due_more due [] number = refl
due_more due (n ∷ came) number = due_more (n + 1) came number

pub gaps_more : (due : ℕ) (came : List ℕ) (number : ℕ)
    → gaps_from due (came ++ number ∷ []) ≡ gaps_from due came + cond (eqb number (due_after due came)) 0 1
gaps_more due [] number = omega arith
gaps_more due (n ∷ came) number = omega (arith, gaps_more (n + 1) came number)

pub run_more : (first due : ℕ) (came : List ℕ) (number : ℕ)
    → run_from first due (came ++ number ∷ []) ≡ cond (eqb number (due_after due came)) (run_from first due came) number
run_more first due [] number = refl
run_more first due (n ∷ came) number = run_more (cond (eqb n due) first n) (n + 1) came number
