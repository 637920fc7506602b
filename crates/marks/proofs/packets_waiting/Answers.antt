-- A ring that is whole has a start and a count of a ring (`ring_passed`).
use Rattle.marks.proofs.Used.{ring_passed}
use Rattle.marks.proofs.packets_waiting.Goals as goal

pub invariant_of-ring : goal.invariant_of-ring
invariant_of-ring c =
    let passed = ring_passed c.args.queue.now c.args.start c.args.used c.requires.1 in
    (c.requires.0, passed.within, passed.most)

pub packets-requires : goal.packets-requires
packets-requires c = (ring_passed c.args.queue.now c.args.start c.args.used c.requires.1).whole
