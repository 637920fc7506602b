-- Before the buffer's end, behind it, or parted by it.
use Rattle.std.proofs.Common.{◌∙◌, arith}
use Rattle.marks.proofs.Used.{mark_near, mark_far, mark_parted}
use Rattle.marks.proofs.mark_round.Goals as goal

pub returns-then-at-near : goal.returns-then-at-near
returns-then-at-near c =
    c.mark_at.ensures ∙ mark_near c.args.queue.now c.args.start c.args.at c.requires.0 c.requires.1 c.if-at-near.true

pub returns-then-near-at : goal.returns-then-near-at
returns-then-near-at c =
    c.mark_at-then-near-at.ensures ∙ mark_far c.args.queue.now c.args.start c.args.at c.requires.0 c.requires.1 c.if-near-at.true

pub returns : goal.returns
returns c =
    c.from.ensures ∙ c.from_be_bytes.ensures
    ∙ mark_parted c.args.queue.now c.args.start c.args.at c.requires.0 c.requires.1 (omega arith)
