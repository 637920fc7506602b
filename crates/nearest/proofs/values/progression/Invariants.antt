-- Number by number: each is the first times the next power of the ratio (`power_turn`).
use Rattle.std.proofs.Common.{◌≡◌, ℕ, ◌<◌, length, get_or}
use Rattle.field.specs.Field.{times}
use Rattle.field.specs.Raised.{raised}
use Rattle.nearest.proofs.values.progression.Given as goal

abbrev pub invariant-loop-number : goal.invariant-loop-number
invariant-loop-number g l =
    (length l.number-items ≡ g.row.N) × (l.next ≡ times l.fn.first (raised l.fn.ratio l.number-index))
    × ((k : ℕ) → k < l.number-index → get_or l.number-items k 0 ≡ times l.fn.first (raised l.fn.ratio k))
