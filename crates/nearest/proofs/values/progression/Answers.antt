-- Number by number: each is the first times the next power of the ratio (`power_turn`).
use Rattle.std.proofs.Common.{ℕ, rules, sym, ap, ◌∙◌, arith, add-one}
use Rattle.std.proofs.Math.ListN.{length-replicate}
use Rattle.basics.proofs.Fill.{stored_more}
use Rattle.field.specs.Field.{times}
use Rattle.field.specs.Raised.{raised}
use Rattle.field.proofs.Laws.{times_one}
use Rattle.nearest.proofs.SumTurns.{power_turn}
use Rattle.nearest.proofs.values.progression.Goals as goal

pub loop-number-init : goal.loop-number-init
unfolding raised
loop-number-init g c = (length-replicate g.row.N 0, sym (times_one c.args.first (omega arith)), λ k h. absurd (omega arith))

pub loop-number-preserved : goal.loop-number-preserved
loop-number-preserved g c =
    let loop = c.loop-number in
    let term : ℕ → ℕ = λ k. times c.args.first (raised c.args.ratio k) in (
      search rules,
      c.product-next.ensures ∙ power_turn c.args.first c.args.ratio loop.next loop.number-index (omega arith) (omega arith) loop.invariant.1
          ∙ ap term (sym (add-one loop.number-index)),
      stored_more term loop.number-items loop.number-index _ loop.invariant.2 (omega arith) loop.invariant.1,
    )
