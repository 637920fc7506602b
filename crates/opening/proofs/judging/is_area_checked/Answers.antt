-- The parts lent to the two calls are those of the definition: the area, and the four bytes behind it, from 1,940 on.
use Rattle.std.proofs.Common.{ap, ◌∙◌, take, drop}
use Rattle.opening.specs.Opening.{area_checked}
use Rattle.basics.specs.Lists.{same}
use Rattle.opening.proofs.judging.is_area_checked.Goals as goal

pub returns : goal.returns
unfolding area_checked
returns c = c.are_same.ensures ∙ ap (same (take 4 (drop 1940 c.args.body.now))) c.area_check-check.ensures
