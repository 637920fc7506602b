-- That both masks together double all eight bytes is `doubles` of Tops.antt.
use Rattle.field.proofs.Tops.{doubles}
use Rattle.field.proofs.lanes.U64Lanes.doubled.Goals as goal

pub returns : goal.returns
returns c = doubles 8 c.args.self
