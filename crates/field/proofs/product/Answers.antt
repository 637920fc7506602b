-- A number of one byte (`each_one`).
use mathlib.Core.Path.{◌∙◌}
use Rattle.field.specs.Field.{times}
use Rattle.field.proofs.EachByte.{each_one}
use Rattle.field.proofs.product.Goals as goal

pub returns : goal.returns
returns c = c.multiplied.ensures ∙ each_one (times c.args.a) c.args.b c.ranges.b.fits
