-- Place by place: a product plus the byte that moves up (`place`) is the step's; nothing moves up into the last place (`last_place`).
use mathlib.Core.Path.{◌≡◌}
use mathlib.Core.List.{tail}
use lib.ListN.{length}
use Rattle.basics.proofs.Fill.{Filled}
use Rattle.field.specs.Field.{times}
use Rattle.division.specs.Register.{step}
use Rattle.reed_solomon.specs.Code.{generator}
use Rattle.plain_reed_solomon.proofs.shift.Given as goal

abbrev pub invariant-loop-j : goal.invariant-loop-j
invariant-loop-j l =
    (length l.register ≡ 16) × (length l.next ≡ 16) × Filled (step times (tail generator) l.register l.byte) l.j l.next
