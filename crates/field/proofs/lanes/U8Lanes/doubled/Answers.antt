-- By cases of the highest bit (`double_low`, `double_high`); one byte is all that the number has (`each_one`).
use mathlib.Core.Path.{sym, ◌∙◌}
use Rattle.field.specs.Field.{double}
use Rattle.field.proofs.Tops.{double_low, double_high}
use Rattle.field.proofs.EachByte.{each_one}
use Rattle.field.proofs.lanes.U8Lanes.doubled.Goals as goal

pub returns-then-self-lt128 : goal.returns-then-self-lt128
returns-then-self-lt128 c = double_low c.args.self c.if-self-lt128.true ∙ sym (each_one double c.args.self c.ranges.self.fits)

pub returns-else-self-lt128 : goal.returns-else-self-lt128
returns-else-self-lt128 c =
    double_high c.args.self c.if-self-lt128.false c.ranges.self.fits ∙ sym (each_one double c.args.self c.ranges.self.fits)
