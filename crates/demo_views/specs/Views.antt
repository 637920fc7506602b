-- What the recorder and the tuner of the demonstration keep of the blocks that came out, whose numbers are given in order.
use Rattle.std.specs.Prelude.{◌≡◌, ℕ, ◌+◌, ◌%◌, ◌^◌, cond, List, [], ◌∷◌, length, ◌==◌}
use Rattle.demo_views.specs.declared.Recorder.{Recorder}
use Rattle.demo_views.specs.declared.Tuner.{Tuner}

-- the number that would follow without a gap, where `due` would have been the first
abbrev pub due_after : ℕ → List ℕ → ℕ
due_after due [] = due
due_after due (number ∷ numbers) = due_after (number + 1) numbers

-- how many blocks came although another was due
abbrev pub gaps_from : ℕ → List ℕ → ℕ
gaps_from due [] = 0
gaps_from due (number ∷ numbers) = cond (number == due) 0 1 + gaps_from (number + 1) numbers

-- the first block of the newest run without a gap, where the run so far began at `first`
abbrev pub run_from : ℕ → ℕ → List ℕ → ℕ
run_from first due [] = first
run_from first due (number ∷ numbers) = run_from (cond (number == due) first number) (number + 1) numbers

-- the recorder after these blocks; its counts have 64 bits
pub record Records (came : List ℕ) (recorder : Recorder) : Type 0 where
  pub blocks : recorder.blocks ≡ length came % 2 ^ 64
  pub gaps : recorder.gaps ≡ gaps_from 0 came % 2 ^ 64
  pub due : recorder.due ≡ due_after 0 came

-- the tuner after these blocks
pub record Tunes (came : List ℕ) (tuner : Tuner) : Type 0 where
  pub first : tuner.first ≡ run_from 0 0 came
  pub due : tuner.due ≡ due_after 0 came
