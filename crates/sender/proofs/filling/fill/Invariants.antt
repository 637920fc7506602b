-- The loop of `fill`: its invariant is that of Round.antt.
use Prim.Native.Nat.{◌-◌}
use Rattle.sender.proofs.Round.{Round}
use Rattle.sender.proofs.filling.fill.Given as goal

abbrev pub invariant-loop-from : goal.invariant-loop-from
invariant-loop-from l = Round l.queue l.sender.start l.sender.used l.area l.at l.from

abbrev pub decreases-loop-from : goal.decreases-loop-from
decreases-loop-from l = l.sender.used - l.from
