-- Place by place: those that are done hold the sum's (`Filled`).
use mathlib.Core.Path.{◌≡◌}
use lib.ListN.{length}
use Rattle.basics.proofs.Fill.{Filled}
use Rattle.division.specs.Division.{plus}
use Rattle.reed_solomon.proofs.plus.Given as goal

abbrev pub invariant-loop-i : goal.invariant-loop-i
invariant-loop-i g l = (length l.sum ≡ g.row.N) × Filled (plus l.a l.b) l.i l.sum
