-- What is refused is refused by the table (`outer_judged`, `inner_is`); the count is the body's (`count_is`), and the scratch goes by both.
use Rattle.std.proofs.Common.{◌≡◌, [], ◌∷◌, cond, eqb, Err, refl, rules, sym, ap, ◌∙◌, arith}
use Rattle.refusals.specs.Numbers.{judged_by}
use Rattle.refusals.specs.Table.{◌unless◌, first_of}
use Rattle.refusals.proofs.Numbers.{passed, refused, kept, answered, stands}
use Rattle.lent.specs.Written.{written}
use Rattle.scrambler.specs.Scrambler.{scrambled}
use Rattle.repairing.specs.Repairing.{repaired, repair_refusal, wrong_bytes}
use Rattle.repairing.proofs.Laws.{Ready, outer_judged, outer_passed, inner_is, count_is, repaired_is}
use Rattle.repairing.proofs.repair.Goals as goal
use Rattle.repairing.proofs.repair.Goals.{In_ok-judge_outer, After-judge_near-judged}

pub returns-in_err-judge_outer : goal.returns-in_err-judge_outer
returns-in_err-judge_outer c =
    let judged = outer_judged c.args.taps c.args.part.now c.args.scratch.now c.in_err-judge_outer.field-0.0 (sym c.in_err-judge_outer.was ∙ c.judge_outer.ensures) in
    let same : c.from_residual.result ≡ Err c.in_err-judge_outer.field-0.0 = search rules in
    record { answer = same ∙ refused _ _ _ _ judged; bytes = kept _ _ _ _ _ judged }

ready : (c : In_ok-judge_outer) → Ready c.args.taps c.args.part.now c.args.scratch.now
ready c = outer_passed c.args.taps c.args.part.now c.args.scratch.now (passed _ _ _ (sym c.in_ok-judge_outer.was ∙ c.judge_outer.ensures))

pub copy_from_slice-requires : goal.copy_from_slice-requires
copy_from_slice-requires c = omega (arith, (ready (goal.at.copy_from_slice-requires c).In_ok-judge_outer).long)

-- what the judge of the body goes by, how many bytes were wrong, and what is written where some were
record Repaired (c : After-judge_near-judged) : Type 0 where
  number : first_of (8 unless c.repair_body-near.result.header ∷ 12 unless c.repair_body-near.result.words ∷ [])
      ≡ repair_refusal c.args.taps c.args.part.now c.args.scratch.now
  wrong : c.repair_body-near.result.wrong ≡ wrong_bytes c.args.taps c.args.part.now
  whole : scrambled c.args.taps c.repair_body-near.new.body ≡ repaired c.args.taps c.args.part.now

after_body : (c : After-judge_near-judged) → Repaired c
after_body c =
    let taps = c.args.taps in
    let part = c.args.part.now in
    let none = passed _ _ _ (sym c.in_ok-judge_outer.was ∙ c.judge_outer.ensures) in
    let long = (outer_passed taps part c.args.scratch.now none).long in
    let is = c.scramble.ensures ∙ ap (scrambled taps) c.copy_from_slice.ensures.after in
    let near = c.repair_body-near in
    record {
      number = inner_is taps part c.args.scratch.now none _ is near.result.header near.result.words near.ensures.header near.ensures.words;
      wrong = near.ensures.count ∙ count_is taps part long _ is;
      whole = repaired_is taps part long _ is _ (ap (scrambled taps) near.ensures.bytes);
    }

pub write_repaired-requires : goal.write_repaired-requires
write_repaired-requires c = (ready (goal.at.write_repaired-requires c).In_ok-judge_outer).room

pub returns-in_err-judged : goal.returns-in_err-judged
returns-in_err-judged c =
    let known = after_body (goal.at.returns-in_err-judged c).After-judge_near-judged in
    let judged = sym c.in_err-judged.was ∙ c.judge_near-judged.ensures ∙ ap judged_by known.number in
    let same : c.from_residual-in_err-judged.result ≡ Err c.in_err-judged.field-0.0 = search rules in
    let unwritten = rw c.in_err-judged.was at c.write_repaired.ensures.kept in
    record { answer = same ∙ refused _ _ _ _ judged; bytes = unwritten refl ∙ kept _ _ _ _ _ judged }

pub returns : goal.returns
returns c =
    let known = after_body (goal.at.returns c).After-judge_near-judged in
    let none = passed _ _ _ (sym c.in_ok-judged.was ∙ c.judge_near-judged.ensures ∙ ap judged_by known.number) in
    let scratch = c.args.scratch.now in
    let whole = rw c.in_ok-judged.was at c.write_repaired.ensures.written in
    record {
      answer = answered _ _ _ none known.wrong;
      bytes = stands _ _ _ _ none (whole ∙ ap (λ n. cond (eqb n 0) scratch (written scratch 0 (scrambled c.args.taps c.repair_body-near.new.body))) known.wrong
          ∙ ap (λ part. cond (eqb (wrong_bytes c.args.taps c.args.part.now) 0) scratch (written scratch 0 part)) known.whole);
    }
