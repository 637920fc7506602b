-- Record by record, by the laws of `Reached`; nothing against the rules can stand here (`not_against`), since the whole area can be read.
use mathlib.Core.Path.{◌≡◌, sym, ap, ◌∙◌}
use native.Mathlib.Omega.{arith}
use Rattle.std.proofs.Common.{rules, Ok, None}
use Rattle.packing.proofs.Records.{lies}
use Rattle.joining.proofs.Reached.{begins, ready, goes_on, ends, not_against}
use Rattle.joining.proofs.join.Goals as goal

pub loop-record-init : goal.loop-record-init
loop-record-init c = begins c.args.area.now c.args.before c.args.hold.now c.args.list.now c.requires

pub piece-requires : goal.piece-requires
piece-requires c =
    (lies c.args.area.now c.loop-record.at c.in-Ok-Some.record (sym c.record_at.ensures ∙ c.in-Ok-Some.is ∙ ap Ok c.in-Ok-Some.field-0-is)).inside

pub join_piece-joined-requires : goal.join_piece-joined-requires
join_piece-joined-requires c =
    let here = sym c.record_at.ensures ∙ c.in-Ok-Some.is ∙ ap Ok c.in-Ok-Some.field-0-is in
    rw (c.piece.ensures.first, c.piece.ensures.last, c.piece.ensures.bytes)
    (ready c.loop-record.invariant c.in-Ok-Some.record here c.requires.low c.requires.room)

pub overflow_add-at : goal.overflow_add-at
overflow_add-at c =
    let here = sym c.record_at.ensures ∙ c.in-Ok-Some.is ∙ ap Ok c.in-Ok-Some.field-0-is in
    omega (arith, (lies c.args.area.now c.loop-record.at c.in-Ok-Some.record here).inside, c.loop-record.invariant.area_long)

pub loop-record-smaller : goal.loop-record-smaller
loop-record-smaller c =
    let here = sym c.record_at.ensures ∙ c.in-Ok-Some.is ∙ ap Ok c.in-Ok-Some.field-0-is in
    let l = lies c.args.area.now c.loop-record.at c.in-Ok-Some.record here in
    omega (arith, l.inside, l.start, c.loop-record.invariant.area_long)

pub loop-record-preserved : goal.loop-record-preserved
loop-record-preserved c =
    let here = sym c.record_at.ensures ∙ c.in-Ok-Some.is ∙ ap Ok c.in-Ok-Some.field-0-is in
    goes_on c.loop-record.invariant c.in-Ok-Some.record here c.join_piece-joined.result _ _ c.requires.low c.requires.room
    (rw (c.piece.ensures.first, c.piece.ensures.last, c.piece.ensures.bytes) at c.join_piece-joined.ensures)

pub returns-in_default : goal.returns-in_default
returns-in_default c =
    let none : c.in_default.field-0 ≡ None = search rules in
    ends c.loop-record.invariant (sym c.record_at.ensures ∙ c.in_default.is ∙ ap Ok none)

pub returns-in_default-2 : goal.returns-in_default-2
returns-in_default-2 c = absurd (not_against c.loop-record.invariant c.in_default.field-0 (sym c.record_at.ensures ∙ c.in_default.is))
