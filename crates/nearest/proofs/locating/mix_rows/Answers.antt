-- Byte by byte: each is the sum of two products, as `mix` has it (`mix_at`).
use Rattle.std.proofs.Common.{◌≡◌, ℕ, get_or, length, rules, ap, ap₂, ◌∙◌, arith}
use Rattle.std.specs.Int.Bits.{bit_xor}
use Rattle.basics.proofs.Fill.{filled_all}
use Rattle.field.specs.Field.{times}
use Rattle.nearest.specs.Search.{mix}
use Rattle.basics.proofs.Iterators.{from_fn_at}
use Rattle.nearest.proofs.LocatingTurns.{mix_at, mix_long}
use Rattle.nearest.proofs.locating.mix_rows.Goals as goal

pub returns : goal.returns
returns c =
    let x = c.args.x in
    let y = c.args.y in
    let row = c.args.row in
    let other = c.args.other in
    let p = c.scaled-p in
    let q = c.scaled-q in
    let P : ℕ → ℕ → Type 0 = λ i b. b ≡ bit_xor (get_or p.result i 0) (get_or q.result i 0) in
    let each = from_fn_at _ _ P 9 (λ k b f l call. search rules) c.from_fn.result c.from_fn.ensures.items in
    let long_row : length row ≡ 9 = search rules in
    let long_other : length other ≡ 9 = search rules in
    filled_all (mix x row y other) c.from_fn.result 9
    (λ k h.
    each k 0 h
    ∙ ap₂ bit_xor (p.ensures.1 k (omega (arith, h)) ∙ ap (times x) (c.widened.ensures k h)) (q.ensures.1 k (omega (arith, h)) ∙ ap (times y) (c.widened-2.ensures k h))
    ∙ mix_at x y row other k long_row long_other h)
    c.from_fn.ensures.items.long (mix_long x y row other long_row long_other)
