-- Too few bytes or a mark of 0 ask for the records' end (`at_few`, `at_zero`); any other mark is a record exactly if `is_mark` allows it (`at_other`).
use mathlib.Core.Path.{sym, ap, ◌∙◌}
use mathlib.Core.Bool.{Bool, cond}
use Prim.Native.Nat.{◌+◌, ◌<◌}
use native.Mathlib.Omega.{arith}
use lib.ListN.{length}
use Rattle.std.proofs.Common.{Some, Ok, Err}
use Rattle.refusals.specs.declared.Refusal.TheVariants.{Packing}
use Rattle.packing.specs.Found.{Found}
use Rattle.packing.specs.Records.{placed}
use Rattle.packing.proofs.Records.{at_few, at_zero, at_other}
use Rattle.packing.proofs.record_at.Goals.{then-total-lt3-via-then-total-lt3, then-total-lt3-via-else-total-lt3+then-total-at}
use Rattle.packing.proofs.record_at.Goals as goal

pub returns-then-total-lt3 : goal.returns-then-total-lt3
returns-then-total-lt3 c =
    let few : length c.args.area.now < c.args.at + 3 =
    elim c.then-total-lt3.branch [
      | then-total-lt3-via-then-total-lt3 w ↦ omega (arith, w.if-total-lt3.true)
      | then-total-lt3-via-else-total-lt3+then-total-at w ↦ omega (arith, w.if-total-lt3.false, w.if-total-at.true)
    ] in
    c.end_at.ensures ∙ sym (at_few c.args.area.now c.args.at few)

pub returns-then-mark-eq0 : goal.returns-then-mark-eq0
returns-then-mark-eq0 c =
    let mark = c.mark_at-mark in
    c.end_at-then-mark-eq0.ensures ∙ sym (at_zero c.args.area.now c.args.at mark.result mark.ensures (omega arith) c.if-mark-eq0.true)

pub returns-then-not-is_mark : goal.returns-then-not-is_mark
returns-then-not-is_mark c =
    let mark = c.mark_at-mark in
    sym (at_other c.args.area.now c.args.at mark.result mark.ensures (omega arith) c.if-mark-eq0.false
    ∙ ap (λ (test : Bool). cond {A = Found} test (Ok (Some (placed c.args.at mark.result))) (Err Packing)) (sym c.is_mark.ensures ∙ c.if-not-is_mark.true))

pub returns : goal.returns
returns c =
    let mark = c.mark_at-mark in
    sym (at_other c.args.area.now c.args.at mark.result mark.ensures (omega arith) c.if-mark-eq0.false
    ∙ ap (λ (test : Bool). cond {A = Found} test (Ok (Some (placed c.args.at mark.result))) (Err Packing)) (sym c.is_mark.ensures ∙ c.if-not-is_mark.false))
