-- List by list of sums: what those that are left make of the rows that are left stays what all eight make of all nine (`locate_turn`).
use mathlib.Core.Path.{◌≡◌}
use Prim.Native.Nat.{◌-◌, ◌≤◌}
use lib.ListN.{take, drop}
use Rattle.nearest.specs.Search.{cut_all, units}
use Rattle.nearest.proofs.locating.locate.Given as goal

abbrev pub invariant-loop-from : goal.invariant-loop-from
invariant-loop-from l = (l.from ≤ 8) × (cut_all (8 - l.from) (drop l.from l.sums) (take (9 - l.from) l.rows) ≡ cut_all 8 l.sums (units 0 9))
