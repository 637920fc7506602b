-- Those of the pairs that differ are counted (`pairs_counted`).
use Rattle.std.proofs.Common.{ℕ, ◌∙◌, eqb, not, rules}
use borrow.Author.Tests.{tests}
use Rattle.std.proofs.lemmas.Iterator.{YieldsList-from_slice, YieldsList-from_zip}
use Rattle.std.proofs.lemmas.Iterator.Consumers.{YieldsList-from_filter, count_from_yields_List}
use Rattle.std.proofs.lemmas.List.Sums.{length-filter}
use Rattle.std.specs.List.{zip}
use Rattle.repairing.proofs.Differences.{pairs_counted}
use Rattle.repairing.proofs.body.count_differences.Goals as goal

pub returns : goal.returns
returns c =
    let a = c.args.a.now in
    let b = c.args.b.now in
    let differ = λ (p : ℕ × ℕ). not (eqb p.0 p.1) in
    let pairs = YieldsList-from_zip {s = c.filter.result.iter} (YieldsList-from_slice a cc) (YieldsList-from_slice b cc) in
    let counted = count_from_yields_List c.filter.result c.count.result c.count.ensures.ran
    (YieldsList-from_filter _ differ pairs c.filter.ensures.closure (λ x t q k. search (rules, tests))) in
    counted ∙ length-filter differ (zip a b) ∙ pairs_counted a b
