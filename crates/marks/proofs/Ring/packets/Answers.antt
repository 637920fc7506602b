-- The laws of the count are those of Counting.antt.
use Rattle.std.proofs.Common.{arith}
use Rattle.marks.proofs.Counting.{count_begins, mark_there, count_goes_on}
use Rattle.marks.proofs.Ring.packets.Goals as goal

pub loop-at-init : goal.loop-at-init
loop-at-init c = count_begins c.args.self.now c.requires

pub overflow_add-packets : goal.overflow_add-packets
overflow_add-packets c = omega (arith, (mark_there c.args.self.now c.requires c.loop-at.invariant (omega arith)).1)

pub loop-at-preserved : goal.loop-at-preserved
loop-at-preserved c = count_goes_on c.args.self.now c.requires c.loop-at.invariant (omega arith) c.mark-mark.result c.mark-mark.ensures
