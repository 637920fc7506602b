-- Turn by turn: the result, times the square to the exponent that is left, stays the power (`odd_turn`, `even_turn`).
use mathlib.Core.Path.{◌≡◌}
use Prim.Native.Nat.{◌<◌}
use Rattle.field.specs.Field.{times}
use Rattle.field.specs.Raised.{raised}
use Rattle.field.proofs.raised_to.Given as goal

abbrev pub invariant-loop-left : goal.invariant-loop-left
invariant-loop-left l =
    (l.result < 256) × (l.square < 256) × (times l.result (raised l.square l.left) ≡ raised l.byte l.exponent)

abbrev pub decreases-loop-left : goal.decreases-loop-left
decreases-loop-left l = l.left
