-- Record by record: the area can be read exactly if it can from here on. The measure falls, since a record lies behind its mark.
use mathlib.Core.Path.{◌≡◌}
use Prim.Native.Nat.{◌-◌, ◌≤◌}
use Rattle.basics.specs.Lists.{is_some}
use Rattle.packing.specs.Records.{read_from, read}
use Rattle.packing.proofs.read_through.Given as goal

abbrev pub invariant-loop-record : goal.invariant-loop-record
invariant-loop-record l = (l.at ≤ 1908) × (is_some (read_from l.area l.at) ≡ is_some (read l.area))

abbrev pub decreases-loop-record : goal.decreases-loop-record
decreases-loop-record l = 1908 - l.at
