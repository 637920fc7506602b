-- List by list of sums: what those that are left make of the rows that are left stays what all eight make of all nine (`locate_turn`).
use mathlib.Core.Path.{◌∙◌}
use native.Mathlib.Omega.{arith}
use Rattle.nearest.proofs.LocatingTurns.{locate_end, locate_turn}
use borrow.Author.Rules.{rules}
use Rattle.nearest.proofs.locating.locate.Goals as goal

pub loop-from-preserved : goal.loop-from-preserved
loop-from-preserved c =
    let loop = c.loop-from in
    let args = c.args in
    let cut = c.cut_rows-rows in
    (search rules, locate_turn args.sums loop.rows cut.result loop.from (omega arith) cut.ensures ∙ loop.invariant.1)

pub returns : goal.returns
returns c =
    let loop = c.loop-from in
    locate_end c.args.sums loop.rows loop.from (omega arith) loop.invariant.1
