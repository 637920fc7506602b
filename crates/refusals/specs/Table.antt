-- A call's refusals are a table (01, "Refusal numbers"): rows of a number and the condition under which it is given, in the call's order. The number of the
-- first row that applies is the call's, 0 for none; where the numbers rise it is the lowest that applies (`lowest` of demand 1). Answer, state and each lent
-- buffer go `by` that number.
use Rattle.std.specs.Prelude.{Bool, not, cond, List, [], ◌∷◌, ℕ, eqb}

pub record Row : Type 0 where
  pub number : ℕ
  pub applies : Bool

infix 80 ◌when◌
infix 80 ◌unless◌
abbrev pub ◌when◌ : ℕ → Bool → Row
number when test = record { number = number; applies = test }

abbrev pub ◌unless◌ : ℕ → Bool → Row
number unless test = record { number = number; applies = not test }

-- the number of the first row that applies, 0 for none
unfoldable pub first_of : List Row → ℕ
first_of [] = 0
first_of (row ∷ rows) = cond row.applies row.number (first_of rows)

-- what is done where the number is 0, and what stands where the call is refused
unfoldable pub by : {A : Type 0} → ℕ → A → A → A
by number done refused = cond (eqb number 0) done refused
