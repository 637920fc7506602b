-- More than 255 bytes are no codeword (`too_long`); others are one exactly if the last 16 are the parity of those before (`codeword_same`).
use native.Mathlib.Omega.{arith}
use mathlib.Core.Path.{sym, ap₂, ◌∙◌}
use Prim.Native.Nat.{◌-◌}
use lib.ListN.{length}
use lib.Seq.{length-take-le}
use Rattle.basics.specs.Lists.{same}
use Rattle.basics.proofs.Tests.{never_true}
use Rattle.basics.proofs.Lists.{cut_rest_lem}
use Rattle.reed_solomon.proofs.Laws.{true_codeword, too_long, codeword_same}
use Rattle.plain_reed_solomon.proofs.is_codeword.Goals as goal

pub returns-then-word-gt255 : goal.returns-then-word-gt255
returns-then-word-gt255 c =
    never_true _ (λ e. too_long c.args.word.now c.if-word-gt255.true (true_codeword _ e))

pub slice_bounds-parity_of-end : goal.slice_bounds-parity_of-end
slice_bounds-parity_of-end c =
    let word = c.args.word.now in
    sym (length-take-le (length word - 16) word (omega arith))

pub returns : goal.returns
returns c =
    let word = c.args.word.now in
    let end = length word - 16 in
    c.are_same.ensures ∙ ap₂ same (cut_rest_lem word end) c.parity_of-parity.ensures
    ∙ sym (codeword_same word end (omega arith) (omega arith))
