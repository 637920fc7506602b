-- A refusal keeps the lent bytes; with none they are exactly 16 (`code_length`), and the coded header is written over all of them.
use Rattle.std.proofs.Common.{◌≡◌, rules, Err, refl, sym, ap, ◌∙◌, arith, length}
use Rattle.refusals.proofs.Numbers.{passed, refused, kept, answered, stands}
use Rattle.header.proofs.Calls.{code_length}
use Rattle.header.specs.Header.{all_ones}
use Rattle.header.proofs.Bytes.{header_length}
use Rattle.header.proofs.code_header.Goals as goal

pub returns-in_err-judge : goal.returns-in_err-judge
returns-in_err-judge c =
    let judged = sym c.in_err-judge.was ∙ c.judge.ensures in
    let same : c.from_residual.result ≡ Err c.in_err-judge.field-0.0 = search rules in
    record { answer = same ∙ refused _ _ _ _ judged; bytes = kept _ _ _ _ _ judged }

pub copy_from_slice-requires : goal.copy_from_slice-requires
copy_from_slice-requires c =
    let sized = code_length _ _ (passed _ _ _ (sym c.in_ok-judge.was ∙ c.judge.ensures)) in
    omega (arith, ap length c.header_bytes.ensures ∙ header_length all_ones c.args.header, sized)

pub returns : goal.returns
returns c =
    let none = passed _ _ _ (sym c.in_ok-judge.was ∙ c.judge.ensures) in
    record { answer = answered _ _ _ none refl; bytes = stands _ _ _ _ none (c.copy_from_slice.ensures.after ∙ c.header_bytes.ensures) }
