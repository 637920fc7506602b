-- What the library's fold gathers is 0 exactly where the definition's test against zeros is true (`zeros_test`).
use Rattle.std.proofs.Common.{rules, ◌≡◌, ◌∙◌, ap}
use lib.Dec.{eqb}
use lib.Bits.{bit_or}
use Rattle.std.specs.List.{fold}
use Rattle.lent.proofs.Zeros.{zeros_test}
use Rattle.lent.proofs.are_zeros.Goals as goal

pub returns : goal.returns
returns c =
    let gathered : c.fold.result ≡ fold (λ all byte. bit_or all byte) 0 c.args.bytes.now = search rules in
    ap (λ r. eqb r 0) gathered ∙ zeros_test c.args.bytes.now
