-- An area of another size cannot be read.
use mathlib.Core.Path.{sym, ap, ◌∙◌}
use Rattle.std.proofs.Common.{ne_eqb}
use Rattle.basics.specs.Lists.{is_some}
use Rattle.packing.proofs.Records.{read_other}
use Rattle.packing.proofs.is_allowed.Goals as goal

pub returns-else-area-eq-AREA_SIZE : goal.returns-else-area-eq-AREA_SIZE
returns-else-area-eq-AREA_SIZE c = ne_eqb _ _ c.if-area-eq-AREA_SIZE.false ∙ ap is_some (sym (read_other c.args.area.now c.if-area-eq-AREA_SIZE.false))
