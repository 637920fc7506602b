-- Row by row: the registers hold what the rows so far leave in them.
use mathlib.Core.Path.{◌≡◌}
use mathlib.Core.List.{tail}
use Rattle.basics.specs.Lists.{zeros}
use Rattle.field.specs.EachByte.{times_each}
use Rattle.division.specs.Register.{feed}
use Rattle.reed_solomon.specs.Code.{generator}
use Rattle.reed_solomon.proofs.register.fed.Given as goal

abbrev pub invariant-loop-row : goal.invariant-loop-row
invariant-loop-row g l = l.registers ≡ feed times_each (tail generator) (zeros 16) l.yielded
