-- From mark to mark of a stretch: `LeadsOn` is the invariant.
use Rattle.std.proofs.Common.{◌-◌}
use Rattle.marks.specs.Walk.{LeadsOn}
use Rattle.marks.proofs.walk_stretch.Given as goal

abbrev pub invariant-loop-at : goal.invariant-loop-at
invariant-loop-at l = LeadsOn l.stretch l.from l.at

abbrev pub decreases-loop-at : goal.decreases-loop-at
decreases-loop-at l = l.last - l.at
