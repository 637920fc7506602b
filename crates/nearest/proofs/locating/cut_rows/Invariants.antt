-- Row by row: the rows put out, and the pass of the carried row over those that are left, stay the rows that are cut (`turn_kept`, `turn_mixed`).
use mathlib.Core.Path.{◌≡◌}
use mathlib.Core.List.{◌++◌}
use Prim.Native.Nat.{◌+◌, ◌-◌, ◌≤◌, ◌<◌}
use lib.ListN.{length, take, drop}
use Rattle.nearest.specs.Search.{cut, dot, pass}
use Rattle.nearest.proofs.locating.cut_rows.Given as goal

abbrev pub invariant-loop-i : goal.invariant-loop-i
invariant-loop-i l =
    (l.i ≤ 8 - l.from) × (l.from < 8) × (length l.rows ≡ 9) × (length l.out ≡ 9) × (l.x ≡ dot l.carried (drop l.from l.fn.sums))
    × (take l.i l.out ++ pass (drop l.from l.fn.sums) l.carried (drop (l.i + 1) (take (9 - l.from) l.rows)) ≡ cut (drop l.from l.fn.sums) (take (9 - l.from) l.rows))
