-- Value by value: those that are done have gone one step of Horner's rule.
use Rattle.std.proofs.Common.{◌≡◌, ℕ, ◌<◌, length, get_or}
use Rattle.std.specs.Int.Bits.{bit_xor}
use Rattle.field.specs.Field.{times}
use Rattle.nearest.proofs.values.step.Given as goal

abbrev pub invariant-loop-i : goal.invariant-loop-i
invariant-loop-i g l =
    (length l.out ≡ g.row.N) × ((k : ℕ) → k < l.i → get_or l.out k 0 ≡ bit_xor l.coefficient (times (get_or l.numbers k 0) (get_or l.values k 0)))
