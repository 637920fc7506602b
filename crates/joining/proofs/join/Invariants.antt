-- Record by record: `Reached` tells what those before this place did, and its laws are in Reached.antt. The measure is the area's bytes left.
use Prim.Native.Nat.{◌-◌}
use Rattle.joining.proofs.Reached.{Reached}
use Rattle.joining.proofs.join.Given as goal

abbrev pub invariant-loop-record : goal.invariant-loop-record
invariant-loop-record l = Reached l.area l.before l.initial.hold l.initial.list l.hold l.list l.at l.joined

abbrev pub decreases-loop-record : goal.decreases-loop-record
decreases-loop-record l = 1908 - l.at
