-- A whole packet becomes an entry of the list (`grows_whole`), an unfinished one stands in the hold (`grows_part`).
use Rattle.joining.proofs.Grown.{grows_whole, grows_part}
use Rattle.joining.proofs.growing.grow.Goals as goal

pub returns-then-piece : goal.returns-then-piece
returns-then-piece c = grows_whole c.requires _ c.if-piece.true c.write_entry.ensures

pub returns : goal.returns
returns c = grows_part c.requires _ c.if-piece.false c.write_at.ensures
