-- The laws of `LeadsOn` are those of Walk.antt.
use Rattle.std.proofs.Common.{arith}
use Rattle.marks.proofs.Walk.{goes_on}
use Rattle.marks.proofs.walk_stretch.Goals as goal

pub loop-at-preserved : goal.loop-at-preserved
loop-at-preserved c =
    rw c.behind_packet-at.ensures (goes_on c.loop-at.invariant (omega arith) (omega arith) c.mark_at.ensures)
