-- A refusal is the table's, whichever judge gives it (`outside_refused`, `inside_number`); the area is written, and the header read, as the definitions have it.
use Rattle.std.proofs.Common.{◌≡◌, rules, Err, refl, sym, ap, ◌∙◌}
use Rattle.refusals.specs.Numbers.{judged_by}
use Rattle.lent.specs.Written.{written}
use Rattle.header_reading.specs.Reading.{header_of}
use Rattle.refusals.proofs.Numbers.{passed, refused, kept, answered, stands}
use Rattle.opening.proofs.Laws.{outside_refused, outside_passed, inside_number, inside_area, inside_opened}
use Rattle.opening.proofs.open.Goals as goal

pub returns-in_err-judge_outside : goal.returns-in_err-judge_outside
returns-in_err-judge_outside c =
    let judged = outside_refused _ _ _ _ (sym c.in_err-judge_outside.was ∙ c.judge_outside.ensures) in
    let same : c.from_residual.result ≡ Err c.in_err-judge_outside.field-0.0 = search rules in
    record { answer = same ∙ refused _ _ _ _ judged; bytes = kept _ _ _ _ _ judged }

pub unscramble-requires : goal.unscramble-requires
unscramble-requires c = (outside_passed _ _ _ (passed _ _ _ (sym c.in_ok-judge_outside.was ∙ c.judge_outside.ensures))).long

pub write_area-requires : goal.write_area-requires
write_area-requires c =
    let args = c.args in
    (outside_passed args.taps args.frame.now args.area.now (passed _ _ _ (sym c.in_ok-judge_outside.was ∙ c.judge_outside.ensures))).room

pub returns-in_err-judged : goal.returns-in_err-judged
returns-in_err-judged c =
    let none = passed _ _ _ (sym c.in_ok-judge_outside.was ∙ c.judge_outside.ensures) in
    let number = inside_number _ _ _ none c.unscramble.ensures c.repair_body-near.ensures in
    let judged = sym c.in_err-judged.was ∙ c.judge_inside-judged.ensures ∙ ap judged_by number in
    let same : c.from_residual-in_err-judged.result ≡ Err c.in_err-judged.field-0.0 = search rules in
    let unwritten = rw c.in_err-judged.was at c.write_area.ensures.kept in
    record { answer = same ∙ refused _ _ _ _ judged; bytes = unwritten refl ∙ kept _ _ _ _ _ judged }

pub returns : goal.returns
returns c =
    let outside = passed _ _ _ (sym c.in_ok-judge_outside.was ∙ c.judge_outside.ensures) in
    let came = c.unscramble.ensures in
    let repaired = c.repair_body-near.ensures in
    let whole = rw c.in_ok-judged.was at c.write_area.ensures.written in
    let none = sym (inside_number _ _ _ outside came repaired) ∙ passed _ _ _ (sym c.in_ok-judged.was ∙ c.judge_inside-judged.ensures) in
    record {
      answer = answered _ _ _ none (inside_opened _ _ _ outside came repaired (c.header_of.ensures ∙ ap header_of c.header_part.ensures));
      bytes = stands _ _ _ _ none (whole ∙ ap (written c.args.area.now 0) (inside_area _ _ _ outside came repaired));
    }
