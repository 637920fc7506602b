-- An area that can be read begins with a record: the other two answers cannot be (`no_end`, `no_against`), and that record decides (`by_first`).
use mathlib.Core.Path.{◌≡◌, sym, ap, ◌∙◌}
use Rattle.std.proofs.Common.{rules, Ok, None}
use Rattle.packing.proofs.Records.{lies}
use Rattle.joining.proofs.First.{no_end, no_against, by_first}
use Rattle.joining.proofs.fitting.first_fits.Goals as goal

pub returns-in_default : goal.returns-in_default
returns-in_default c pieces whole =
    let none : c.in_default.field-0 ≡ None = search rules in
    no_end c.args.held.now c.args.area.now pieces whole (sym c.record_at.ensures ∙ c.in_default.is ∙ ap Ok none)

pub returns-in_default-2 : goal.returns-in_default-2
returns-in_default-2 c pieces whole =
    no_against c.args.held.now c.args.area.now pieces whole c.in_default.field-0 (sym c.record_at.ensures ∙ c.in_default.is)

pub piece-requires : goal.piece-requires
piece-requires c =
    (lies c.args.area.now 0 c.in-Ok-Some.record (sym c.record_at.ensures ∙ c.in-Ok-Some.is ∙ ap Ok c.in-Ok-Some.field-0-is)).inside

pub returns : goal.returns
returns c pieces whole =
    let here = sym c.record_at.ensures ∙ c.in-Ok-Some.is ∙ ap Ok c.in-Ok-Some.field-0-is in
    let piece = c.piece.ensures in
    c.piece_fits.ensures ∙ rw (piece.first, piece.last, piece.bytes) (by_first c.args.held.now c.args.area.now pieces whole c.in-Ok-Some.record here)
