-- What reading says where no record stands (`read_end`, `read_against`), and where one does (`some_record`), which lies behind its mark (`lies`).
use mathlib.Core.Path.{◌≡◌, sym, ap, ◌∙◌}
use native.Mathlib.Omega.{arith}
use Rattle.std.proofs.Common.{rules, Ok, Err}
use Rattle.basics.specs.Lists.{is_some}
use Rattle.packing.proofs.Records.{lies, read_whole, read_end, read_against, some_record}
use Rattle.packing.proofs.read_through.Goals as goal

pub loop-record-init : goal.loop-record-init
loop-record-init c = (omega arith, ap is_some (sym (read_whole c.args.area.now c.requires)))

pub returns-in_err-record : goal.returns-in_err-record
returns-in_err-record c =
    let against = read_against c.args.area.now c.loop-record.at c.in_err-record.field-0.0 (sym c.record_at.ensures ∙ c.in_err-record.was) in
    let same : c.from_residual.result ≡ Err c.in_err-record.field-0.0 = search rules in
    rw same (ap is_some (sym against) ∙ c.loop-record.invariant.1)

pub overflow_add-at : goal.overflow_add-at
overflow_add-at c =
    let here = sym c.record_at.ensures ∙ c.in_ok-record.was ∙ ap Ok c.in-Some.is in
    omega (arith, c.requires, (lies c.args.area.now c.loop-record.at c.in-Some.record here).inside)

pub loop-record-smaller : goal.loop-record-smaller
loop-record-smaller c =
    let here = sym c.record_at.ensures ∙ c.in_ok-record.was ∙ ap Ok c.in-Some.is in
    let l = lies c.args.area.now c.loop-record.at c.in-Some.record here in
    omega (arith, l.inside, l.start, c.requires)

pub loop-record-preserved : goal.loop-record-preserved
loop-record-preserved c =
    let here = sym c.record_at.ensures ∙ c.in_ok-record.was ∙ ap Ok c.in-Some.is in
    let l = lies c.args.area.now c.loop-record.at c.in-Some.record here in
    (omega (arith, l.inside, c.requires), sym (some_record c.args.area.now c.loop-record.at c.in-Some.record here) ∙ c.loop-record.invariant.1)

pub returns : goal.returns
returns c =
    let here = sym c.record_at.ensures ∙ c.in_ok-record.was ∙ ap Ok c.in_default.is in
    ap is_some (sym (read_end c.args.area.now c.loop-record.at here)) ∙ c.loop-record.invariant.1
