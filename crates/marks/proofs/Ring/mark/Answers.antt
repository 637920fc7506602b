-- A mark within the used bytes is the one that stands there in the ring.
use Rattle.std.proofs.Common.{ap, ◌∙◌, arith}
use Rattle.link.proofs.Store.{mark_from}
use Rattle.marks.proofs.Used.{seen_length, used_mark}
use Rattle.marks.proofs.Ring.mark.Goals as goal

pub returns : goal.returns
returns c =
    let ring = c.self.inside in
    let long = seen_length ring.buffer.now ring.start ring.used (omega (arith, c.self.invariant)) c.args.self.now c.self.view_is in
    c.mark_round.ensures ∙ used_mark ring.buffer.now ring.start ring.used (omega (arith, c.self.invariant)) c.args.at (omega (arith, long))
    ∙ ap (λ bytes. mark_from bytes c.args.at) c.self.view_is
