-- A refusal by either table keeps hold and list; it is the whole table's (`buffers_first`, `judged`). Else a DATA area is joined (`data_done`), and of another kind
-- only the count is told (`other_done`).
use Rattle.std.proofs.Common.{◌≡◌, Err, rules, sym, ◌∙◌}
use Rattle.std.proofs.lemmas.Bool.{not-true, not-false}
use Rattle.refusals.proofs.Numbers.{passed, refused, kept}
use Rattle.receiver.proofs.Applying.{buffers_first, judged, data_done, other_done}
use Rattle.receiver.proofs.Tables.{data_tested}
use Rattle.receiver.proofs.apply.Goals as goal

pub returns-in_err-judge_buffers : goal.returns-in_err-judge_buffers
returns-in_err-judge_buffers c =
    let e = buffers_first c.args.header c.args.area.now c.args.receiver c.args.hold.now c.args.list.now (sym c.in_err-judge_buffers.was ∙ c.judge_buffers.ensures) in
    let same : c.from_residual.result ≡ Err c.in_err-judge_buffers.field-0.0 = search rules in
    record { answer = same ∙ refused _ _ _ _ e; held = kept _ _ _ _ _ e; listed = kept _ _ _ _ _ e }

pub returns-in-Err : goal.returns-in-Err
returns-in-Err c =
    let k =
    judged c.args.header c.args.area.now c.args.receiver c.args.hold.now c.args.list.now (sym c.in_ok-judge_buffers.was ∙ c.judge_buffers.ensures) c.missed_before-missed.ensures c.held_after-held.ensures in
    let e = rw k.refusal at (sym c.in-Err.is ∙ c.judge_opened.ensures) in
    record { answer = refused _ _ _ _ e; held = kept _ _ _ _ _ e; listed = kept _ _ _ _ _ e }

pub returns-then-ne : goal.returns-then-ne
returns-then-ne c =
    let k =
    judged c.args.header c.args.area.now c.args.receiver c.args.hold.now c.args.list.now (sym c.in_ok-judge_buffers.was ∙ c.judge_buffers.ensures) c.missed_before-missed.ensures c.held_after-held.ensures in
    let z = passed _ _ _ (sym c.in-Ok.is ∙ c.judge_opened.ensures) in
    other_done k z c.next-next.ensures (data_tested c.args.header.kind ∙ not-true _ (sym c.ne.ensures ∙ c.if-ne.true))

pub returns : goal.returns
returns c =
    let k =
    judged c.args.header c.args.area.now c.args.receiver c.args.hold.now c.args.list.now (sym c.in_ok-judge_buffers.was ∙ c.judge_buffers.ensures) c.missed_before-missed.ensures c.held_after-held.ensures in
    let tested = data_tested c.args.header.kind ∙ not-false _ (sym c.ne.ensures ∙ c.if-ne.false) in
    data_done k (passed _ _ _ (sym c.in-Ok.is ∙ c.judge_opened.ensures)) c.next-next.ensures tested c.join-joined.ensures
