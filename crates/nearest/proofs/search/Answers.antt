-- What the steps find is what `search_for` has (`is_search`): the remainder's values are the word's sums (`sums_are`), and there is room for the places
-- (`places_fit`).
use Rattle.std.proofs.Common.{take, rules}
use Rattle.nearest.proofs.Check.{is_search, places_fall, places_fit}
use Rattle.nearest.proofs.SumLaws.{sums_are}
use Rattle.nearest.proofs.search.Goals as goal

pub places_of-wrong-requires : goal.places_of-wrong-requires
places_of-wrong-requires c =
    let own = c.args.own in
    let sums = c.sums_at-sums in
    let same = sums_are own sums.result c.args.remainder (search rules) c.requires.0 c.requires.1 (search rules) sums.ensures in
    places_fit own sums.result c.locate-locator.result same c.locate-locator.ensures

pub fix_all-requires : goal.fix_all-requires
fix_all-requires c =
    let sums = c.sums_at-sums in
    let wrong = c.places_of-wrong in (
      sums_are c.args.own sums.result c.args.remainder (search rules) c.requires.0 c.requires.1 (search rules) sums.ensures,
      places_fall (take wrong.result.count wrong.result.at) c.locate-locator.result wrong.ensures,
    )

pub returns : goal.returns
returns c =
    let own = c.args.own in
    let sums = c.sums_at-sums in
    let same = sums_are own sums.result c.args.remainder (search rules) c.requires.0 c.requires.1 (search rules) sums.ensures in
    let wrong = c.places_of-wrong in
    let at = take wrong.result.count wrong.result.at in
    let fixed = c.fix_all in
    (is_search own sums.result c.locate-locator.result at fixed.result.word same c.locate-locator.ensures wrong.ensures fixed.ensures.0, fixed.ensures.1)
