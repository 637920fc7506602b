-- The list of the used bytes is as long as they are many.
use Rattle.std.proofs.Common.{arith}
use Rattle.marks.proofs.Used.{seen_length}
use Rattle.marks.proofs.Ring.len.Goals as goal

pub returns : goal.returns
returns c =
    let ring = c.self.inside in
    let long = seen_length ring.buffer.now ring.start ring.used (omega (arith, c.self.invariant)) c.args.self.now c.self.view_is in
    record { all = long; most = omega (arith, long, c.self.invariant) }
