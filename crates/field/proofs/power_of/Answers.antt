-- Turn by turn: the byte is the power whose exponent is the number of turns done, since twice a power is the next (`power_next`).
use mathlib.Core.Path.{refl, ap, ◌∙◌}
use Rattle.field.specs.Field.{power, times}
use Rattle.field.proofs.Laws.{power_next}
use Rattle.field.proofs.power_of.Goals as goal

pub loop-init : goal.loop-init
unfolding power
loop-init c = refl

pub loop-preserved : goal.loop-preserved
loop-preserved c =
    let loop = c.loop in
    c.product-power.ensures ∙ ap (times 2) loop.invariant ∙ power_next loop.counter
