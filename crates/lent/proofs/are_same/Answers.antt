-- The library's test, element by element, is true exactly where two parts are equal (`bytes_decides`), and so is the definition's test (`is_same`).
use Rattle.std.proofs.Common.{◌∙◌}
use lib.Dec.{eqb}
use lib.Pointwise.{pointwise, bytes_decides}
use Rattle.basics.proofs.Tests.{is_same}
use Rattle.lent.proofs.are_same.Goals as goal

pub returns : goal.returns
returns c =
    let a = c.args.a.now in
    let b = c.args.b.now in
    let decides = bytes_decides a b in c.eq.ensures ∙ is_same (pointwise eqb a b) a b decides.0 decides.1
