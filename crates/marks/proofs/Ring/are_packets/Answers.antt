-- One stretch, or two and the buffer's end between them: the laws are those of Round.antt.
use Rattle.std.proofs.Common.{arith}
use Rattle.link.proofs.Store.{whole_from}
use Rattle.marks.proofs.Used.{seen_length}
use Rattle.marks.proofs.Round.{one_stretch, two_stretches}
use Rattle.marks.proofs.Ring.are_packets.Goals as goal

pub returns-then-self-near : goal.returns-then-self-near
unfolding whole_from
returns-then-self-near c =
    let ring = c.self.inside in
    let i = c.self.invariant in
    let walked = c.walk_stretch.ensures in
    let long = seen_length ring.buffer.now ring.start ring.used (omega (arith, i)) c.args.self.now c.self.view_is in
    rw (← c.self.view_is) (one_stretch ring.buffer.now ring.start ring.used i.0 i.1 i.2 (omega arith) (omega (arith, long)) walked.0 walked.1)

pub returns : goal.returns
unfolding whole_from
returns c =
    let ring = c.self.inside in
    let i = c.self.invariant in
    let front = c.walk_stretch-2.ensures in
    let rest = c.walk_stretch-3.ensures in
    let long = seen_length ring.buffer.now ring.start ring.used (omega (arith, i)) c.args.self.now c.self.view_is in
    rw (← c.self.view_is) (two_stretches ring.buffer.now ring.start ring.used i.0 i.1 i.2 (omega arith) (omega (arith, long))
    front.0 front.1 c.over_end-at.ensures rest.0 rest.1)
