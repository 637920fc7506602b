-- The library's test of the eight words (`cases_from_all`) is the definition's (`codewords_test`), and what is gathered is judged as the payload's word k
-- (`in_code`). A payload of another length has no words.
use Rattle.std.proofs.Common.{rules, arith, ◌≡◌, ◌∙◌, refl, length}
use mathlib.Core.Bool.{true, false}
use lib.Dec.{eqb}
use borrow.Author.Tests.{tests}
use Rattle.std.proofs.lemmas.Iterator.{cases_from_all, YieldsList-from_range}
use Rattle.basics.proofs.Tests.{never_true}
use Rattle.reed_solomon.specs.Code.{is_codeword}
use Rattle.reed_solomon.specs.Payload.{every_eighth}
use Rattle.reed_solomon.proofs.Interleaved.{true_codewords}
use Rattle.plain_reed_solomon.proofs.Writes.{in_code, codewords_test}
use Rattle.plain_reed_solomon.proofs.are_codewords.Goals as goal

pub returns-then-payload-eq2040 : goal.returns-then-payload-eq2040
returns-then-payload-eq2040 c =
    let payload = c.args.payload.now in
    codewords_test c.all.result payload c.if-payload-eq2040.true
    (cases_from_all _ _ _ (λ k. is_codeword (every_eighth 255 k payload) ≡ true) (λ k. is_codeword (every_eighth 255 k payload) ≡ false) c.all.ensures.ran
    (YieldsList-from_range 0 8 8 refl (omega arith)) (λ k q called. search (rules, tests, in_code)) (λ k q called. search (rules, tests, in_code)))

pub returns-else-payload-eq2040 : goal.returns-else-payload-eq2040
returns-else-payload-eq2040 c =
    let payload = c.args.payload.now in
    let other : eqb (length payload) 2040 ≡ false = search (rules, tests) in
    other ∙ never_true _ (λ e. c.if-payload-eq2040.false (true_codewords _ e).long)
