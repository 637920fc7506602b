-- Place by place: a product plus the byte that moves up (`place`) is the step's; nothing moves up into the last place (`last_place`).
use native.Mathlib.Omega.{arith}
use mathlib.Core.Path.{ap, ◌∙◌}
use mathlib.Core.List.{tail}
use Prim.Native.Nat.{◌+◌}
use lib.Bits.{bit_xor}
use lib.ListN.{get_or, set, length-set}
use Rattle.basics.proofs.Fill.{filled_more, filled_all}
use Rattle.field.specs.Field.{times}
use Rattle.division.specs.Register.{step}
use Rattle.reed_solomon.specs.Code.{generator}
use Rattle.reed_solomon.proofs.Laws.{step_long}
use Rattle.plain_reed_solomon.proofs.Register.{place, last_place}
use borrow.Author.Rules.{rules}
use Rattle.plain_reed_solomon.proofs.shift.Goals as goal

pub loop-j-preserved : goal.loop-j-preserved
loop-j-preserved c =
    let loop = c.loop-j in
    let register = c.args.register in
    let byte = c.args.byte in (
      search rules,
      search rules,
      filled_more (step times (tail generator) register byte) loop.next loop.j _ loop.invariant.2 (omega arith)
          (ap (λ x. bit_xor x (get_or register (loop.j + 1) 0)) c.product.ensures
          ∙ place c.args.coefficients.now register byte c.requires loop.invariant.0 loop.j (omega arith)),
    )

pub returns : goal.returns
returns c =
    let loop = c.loop-j in
    let register = c.args.register in
    let byte = c.args.byte in
    let last = c.product-2.result in
    let t = step times (tail generator) register byte in
    filled_all t (set loop.next 15 last) 16
    (filled_more t loop.next 15 last (λ k h. loop.invariant.2 k (omega arith)) (omega arith)
    (c.product-2.ensures ∙ last_place c.args.coefficients.now register byte c.requires loop.invariant.0))
    (length-set loop.next 15 last ∙ loop.invariant.1) (step_long times register byte loop.invariant.0)
