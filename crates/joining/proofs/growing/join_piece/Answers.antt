-- With nothing held, a piece without "first" is skipped.
use Rattle.joining.proofs.Grown.{skips}
use Rattle.joining.proofs.growing.join_piece.Goals as goal

pub returns-then-before-eq0 : goal.returns-then-before-eq0
returns-then-before-eq0 c = skips c.requires c.if-piece.false c.if-before-eq0.true
