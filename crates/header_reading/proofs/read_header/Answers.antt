-- 2 where there are not exactly 16 bytes (`read_unsized`); where there are, by what they hold (`read_by_content`).
use Rattle.std.proofs.Common.{◌≡◌, rules, Err, sym, ap, ◌∙◌, length}
use Rattle.refusals.specs.declared.Refusal.TheVariants.{Length}
use Rattle.refusals.specs.Numbers.{judged_by}
use Rattle.refusals.specs.Table.{first_of}
use Rattle.refusals.proofs.Numbers.{passed, refused, answered}
use Rattle.header_reading.specs.Reading.{header_of, header_table}
use Rattle.header_reading.proofs.Calls.{read_unsized, read_by_content}
use Rattle.header_reading.proofs.read_header.Goals as goal

pub returns-in_err-sized : goal.returns-in_err-sized
returns-in_err-sized c =
    let unsized : length c.args.bytes.now ≡ 16 → ⊥ = search rules in
    let same : c.from_residual.result ≡ Err Length = search rules in
    same ∙ read_unsized _ unsized

pub returns-in_err-judge : goal.returns-in_err-judge
returns-in_err-judge c =
    let whole : c.in_ok-sized.sized.now ≡ c.args.bytes.now = search rules in
    let long : length c.args.bytes.now ≡ 16 = search rules in
    let judged = sym c.in_err-judge.was ∙ c.judge.ensures ∙ ap (λ l. judged_by (first_of (header_table l))) whole in
    let same : c.from_residual-in_err-judge.result ≡ Err c.in_err-judge.field-0.0 = search rules in
    same ∙ refused _ _ _ _ (judged ∙ ap judged_by (sym (read_by_content _ long)))

pub returns : goal.returns
returns c =
    let whole : c.in_ok-sized.sized.now ≡ c.args.bytes.now = search rules in
    let long : length c.args.bytes.now ≡ 16 = search rules in
    let none = passed _ _ _ (sym c.in_ok-judge.was ∙ c.judge.ensures) in
    answered _ _ _ (read_by_content _ long ∙ ap (λ l. first_of (header_table l)) (sym whole) ∙ none) (c.header_of.ensures ∙ ap header_of whole)
