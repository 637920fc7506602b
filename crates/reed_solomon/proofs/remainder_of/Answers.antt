-- The word is cut before its last 16 bytes, and the sum is what division leaves (`remainder_is`).
use Rattle.std.proofs.Common.{arith, ◌∙◌, sym, ap, ap₂, length, ◌-◌}
use Rattle.division.specs.Division.{plus}
use Rattle.reed_solomon.specs.Code.{parity}
use Rattle.reed_solomon.proofs.Remainders.{remainder_is}
use Rattle.reed_solomon.proofs.remainder_of.Goals as goal

pub returns : goal.returns
returns c =
    let word = c.args.word.now in
    let end = length word - 16 in
    c.plus.ensures ∙ ap₂ plus (c.parity_of.ensures ∙ ap parity (c.split_at.ensures.front)) (c.split_at.ensures.back)
    ∙ sym (remainder_is word end (omega arith) c.requires.1)
