-- Turn by turn: the byte is the power whose exponent is the number of turns done, since twice a power is the next (`power_next`).
use mathlib.Core.Path.{◌≡◌}
use Rattle.field.specs.Field.{power}
use Rattle.field.proofs.power_of.Given as goal

abbrev pub invariant-loop : goal.invariant-loop
invariant-loop l = l.power ≡ power l.counter
