-- Turn by turn: the result, times the square to the exponent that is left, stays the power (`odd_turn`, `even_turn`).
use mathlib.Core.Path.{sym, ap₂, ◌∙◌, subst}
use Prim.Native.Nat.{ℕ, ◌<◌, ◌/◌}
use native.Mathlib.Omega.{arith}
use Rattle.field.specs.Field.{times}
use Rattle.field.proofs.Laws.{times_lt, one_times}
use Rattle.field.specs.Raised.{raised}
use Rattle.field.proofs.Raised.{raised_lt, odd_turn, even_turn, no_turn}
use borrow.Author.Rules.{rules}
use Rattle.field.proofs.raised_to.Goals as goal
use Rattle.field.proofs.raised_to.Goals.{then-left-eq1, else-left-eq1}

pub loop-left-init : goal.loop-left-init
loop-left-init c = (search rules, search rules, one_times _ (raised_lt _ _))

pub loop-left-preserved : goal.loop-left-preserved
loop-left-preserved c =
    let loop = c.loop-left in
    let squared = c.product-square.ensures in
    let next : ℕ → ℕ → ℕ = λ result square. times result (raised square (loop.left / 2)) in (
      elim c.if-left-eq1.branch [
        | then-left-eq1 w ↦
            subst (λ x. x < 256) (sym (w.result-is ∙ w.product-result.ensures)) (times_lt loop.square loop.result loop.invariant.0)
        | else-left-eq1 w ↦ subst (λ x. x < 256) (sym w.result-is) loop.invariant.0
      ],
      subst (λ x. x < 256) (sym squared) (times_lt loop.square loop.square loop.invariant.1),
      elim c.if-left-eq1.branch [
        | then-left-eq1 w ↦
            ap₂ next (w.result-is ∙ w.product-result.ensures) squared
            ∙ odd_turn loop.square loop.result loop.left loop.invariant.1 loop.invariant.0 w.if-left-eq1.true ∙ loop.invariant.2
        | else-left-eq1 w ↦
            ap₂ next w.result-is squared
            ∙ even_turn loop.square loop.result loop.left loop.invariant.1 w.if-left-eq1.false ∙ loop.invariant.2
      ],
    )

pub returns : goal.returns
returns c =
    let loop = c.loop-left in
    sym (no_turn loop.square loop.result loop.left loop.invariant.0 (omega arith)) ∙ loop.invariant.2
