-- The numbers are the roots (`root_number`), and the bytes from the last on are the coefficients from the lowest power up (`value_reverse`).
use Rattle.std.proofs.Common.{◌+◌, ◌*◌, ap, ◌∙◌, rules}
use Rattle.basics.proofs.Lists.{bytes_each}
use Rattle.field.proofs.Laws.{power_lt}
use Rattle.field.specs.Field.{power}
use Rattle.nearest.specs.Search.{value_at}
use Rattle.nearest.proofs.SumTurns.{root_number, value_reverse}
use Rattle.nearest.proofs.sums.sums_at.Goals as goal

pub returns : goal.returns
returns c =
    let remainder = c.args.remainder in
    λ i h.
    c.values_at.ensures i h
    ∙ ap (λ x. value_at x c.reverse.new.self) (c.progression-roots.ensures i h ∙ root_number i)
    ∙ ap (value_at (power (11 * (120 + i)))) c.reverse.ensures.after
    ∙ value_reverse (power (11 * (120 + i))) remainder (power_lt (11 * (120 + i))) (bytes_each remainder (λ k. search rules))
