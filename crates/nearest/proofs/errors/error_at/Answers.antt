-- Place by place: the sums that are left without the places that are left stay the sums without all (`without_all_turn`), and so the divisor
-- (`factor_turn`).
use Rattle.std.proofs.Common.{ap, ap₂, ◌∙◌, sym, subst, ◌+◌, ◌<◌, drop, rules, arith}
use Rattle.field.specs.Field.{times}
use Rattle.field.specs.Raised.{raised, inverse_of}
use Rattle.field.proofs.Laws.{times_lt}
use Rattle.nearest.specs.Search.{error_at, factor, over, without_all}
use Rattle.nearest.proofs.ErrorTurns.{factor_end, factor_turn, without_all_end, without_all_turn}
use Rattle.nearest.proofs.errors.error_at.Goals as goal

pub loop-other-preserved : goal.loop-other-preserved
loop-other-preserved c =
    let loop = c.loop-other in
    let number = c.args.number in
    let others = c.args.others.now in
    let i = loop.other-index in
    let product = c.product-divisor.ensures in (
      search rules,
      subst (λ z. z < 256) (sym product) (times_lt _ loop.divisor loop.invariant.1),
      without_all_turn others loop.left c.sums_without-left.result _ i (omega arith) c.requires loop.invariant.0 (search rules) c.sums_without-left.ensures
          loop.invariant.2,
      ap (times (factor number (drop (i + 1) others))) product
          ∙ factor_turn number others i loop.divisor _ (omega arith) (omega arith) (search rules) loop.invariant.1 loop.invariant.3,
    )

pub returns : goal.returns
unfolding error_at over inverse_of
returns c =
    let loop = c.loop-other in
    let number = c.args.number in
    let others = c.args.others.now in
    c.product.ensures
    ∙ ap₂ times (without_all_end others loop.left (without_all others c.args.sums) loop.other-index (omega arith) c.requires loop.invariant.2)
    (c.raised_to.ensures ∙ ap (λ d. raised d 254) (factor_end number others loop.other-index loop.divisor _ (omega arith) loop.invariant.1 loop.invariant.3))
