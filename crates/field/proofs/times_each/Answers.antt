-- A number of eight bytes: as the definition has it.
use Rattle.field.specs.EachByte.{times_each}
use Rattle.field.proofs.times_each.Goals as goal

pub returns : goal.returns
unfolding times_each
returns c = c.multiplied.ensures
