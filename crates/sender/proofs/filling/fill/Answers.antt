-- The turns of the loop of `fill` are those of Round.antt.
use native.Mathlib.Omega.{arith}
use Rattle.basics.proofs.Lists.{bytes_each}
use Rattle.sender.proofs.Round.{begins, ends, full, mark_room, reached, goes_on, cuts}
use Rattle.sender.proofs.filling.fill.Goals as goal

pub loop-from-init : goal.loop-from-init
loop-from-init c =
    let queue = c.args.queue.now in
    begins queue c.args.sender.start c.args.sender.used c.args.area.now
    (bytes_each queue (λ i. omega (arith, c.type_inv.queue i))) c.requires.1 c.requires.2 c.requires.3

pub returns-then-room-lt3 : goal.returns-then-room-lt3
returns-then-room-lt3 c = full c.loop-from.invariant c.loop-from-test.true c.if-room-lt3.true

pub mark_round-mark-requires : goal.mark_round-mark-requires
mark_round-mark-requires c =
    (c.requires.0, omega (arith, mark_room c.loop-from.invariant c.loop-from-test.true, c.loop-from.invariant.inside))

pub write_record-requires : goal.write_record-requires
write_record-requires c =
    let k = reached c.loop-from.invariant c.loop-from-test.true c.mark_round-mark.ensures in
    (omega (arith, c.loop-from.invariant.filling.long), omega arith, c.requires.0, omega (arith, c.loop-from.invariant.inside))

pub returns-after-loop-from : goal.returns-after-loop-from
returns-after-loop-from c = ends c.loop-from.invariant c.loop-from-test.false

pub returns-then-length-waiting : goal.returns-then-length-waiting
returns-then-length-waiting c =
    cuts c.loop-from.invariant c.loop-from-test.true c.mark_round-mark.ensures (omega arith) (omega arith) c.write_record.ensures c.if-length-waiting.true

pub loop-from-preserved : goal.loop-from-preserved
loop-from-preserved c =
    goes_on c.loop-from.invariant c.loop-from-test.true c.mark_round-mark.ensures (omega arith) (omega arith) c.write_record.ensures c.if-length-waiting.false
