-- The 16 places written out, one product each (`placed`), are one step of the division of all eight words (`shifted`).
use mathlib.Core.Path.{ap}
use mathlib.Core.List.{[], ◌∷◌}
use Rattle.basics.specs.Lists.{entries}
use Rattle.division.specs.Division.{plus, scale}
use Rattle.reed_solomon.proofs.Registers.{placed, shifted}
use borrow.Author.Rules.{rules}
use Rattle.reed_solomon.proofs.register.shift.Goals as goal

pub returns : goal.returns
unfolding plus scale entries
returns c =
    shifted c.args.registers c.args.row (search (rules, c.well_formed)) _
    (placed _ c.times_each.ensures
    (placed _ c.times_each-2.ensures
    (placed _ c.times_each-3.ensures
    (placed _ c.times_each-4.ensures
    (placed _ c.times_each-5.ensures
    (placed _ c.times_each-6.ensures
    (placed _ c.times_each-7.ensures
    (placed _ c.times_each-8.ensures
    (placed _ c.times_each-9.ensures
    (placed _ c.times_each-10.ensures
    (placed _ c.times_each-11.ensures
    (placed _ c.times_each-12.ensures
    (placed _ c.times_each-13.ensures
    (placed _ c.times_each-14.ensures
    (placed _ c.times_each-15.ensures
    (ap (λ x. x ∷ []) c.times_each-16.ensures))))))))))))))))
