-- Row by row: the registers hold what the rows so far leave in them.
use mathlib.Core.Path.{refl, ap, ◌∙◌, sym}
use mathlib.Core.List.{tail}
use Rattle.basics.specs.Lists.{zeros}
use Rattle.field.specs.EachByte.{times_each}
use Rattle.division.specs.Register.{step, feed}
use Rattle.reed_solomon.specs.Code.{generator}
use Rattle.reed_solomon.proofs.Laws.{feed_behind}
use borrow.Author.Rules.{rules}
use Rattle.reed_solomon.proofs.register.fed.Goals as goal

pub loop-row-init : goal.loop-row-init
unfolding feed
loop-row-init g c = refl

pub loop-row-preserved : goal.loop-row-preserved
loop-row-preserved g c =
    let row = c.in-Some.row in
    c.shift-next.ensures ∙ ap (λ registers. step times_each (tail generator) registers row) c.loop-row.invariant
    ∙ sym (feed_behind times_each (tail generator) (zeros 16) c.loop-row.yielded row)

pub returns : goal.returns
returns g c = (c.loop-row.yielded, (c.next.new.self, (c.loop-row.row-iterator, search rules, search rules)), c.loop-row.invariant)
