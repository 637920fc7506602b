-- Sum by sum: the error times the next power of the place's number (`power_from`).
use Rattle.std.proofs.Common.{◌≡◌, ℕ, get_or, ap, ◌∙◌, rules, arith}
use Rattle.std.specs.Int.Bits.{bit_xor}
use Rattle.field.specs.Field.{times}
use Rattle.field.specs.Raised.{raised}
use Rattle.basics.proofs.Iterators.{from_fn_at}
use Rattle.nearest.proofs.SumTurns.{power_from}
use Rattle.nearest.proofs.sums.sums_with.Goals as goal

pub returns : goal.returns
returns c =
    let error = c.args.error in
    let number = c.args.number in
    let sums = c.args.sums in
    let terms = c.progression-terms in
    let P : ℕ → ℕ → Type 0 = λ i y. y ≡ bit_xor (get_or sums i 0) (get_or terms.result i 0) in
    let first = c.product-first.ensures ∙ ap (times error) c.raised_to.ensures in
    λ i h.
    from_fn_at _ _ P 16 (λ k y q l call. search rules) c.from_fn.result c.from_fn.ensures.items i 0 h
    ∙ ap (bit_xor (get_or sums i 0)) (terms.ensures i h ∙ ap (λ y. times y (raised number i)) first ∙ power_from error number i (omega arith) (omega arith))
