-- Tap 0 is the lowest digit, which is the remainder by 2 (`digit_zero`); the bound of 25 taps is asked alike in code and definition.
use mathlib.Core.Path.{sym, ap, ap₂, ◌∙◌}
use mathlib.Core.Bool.{Bool, ◌&&◌}
use Prim.Native.Nat.{ℕ}
use lib.Dec.{eqb}
use borrow.Author.Tests.{lt-ltb, le-ltb}
use Rattle.basics.specs.Numbers.{digit}
use Rattle.scrambler.specs.Scrambler.{taps_allowed}
use Rattle.scrambler.proofs.Stages.{digit_zero}
use Rattle.scrambler.proofs.are_taps.Goals as goal

pub returns-then-taps-lt33554432 : goal.returns-then-taps-lt33554432
unfolding taps_allowed
returns-then-taps-lt33554432 c =
    let taps = c.args.taps in
    sym (ap₂ (λ (below : Bool) (x : ℕ). below && eqb x 1) (lt-ltb taps 0x2000000 c.if-taps-lt33554432.true) (digit_zero taps))

pub returns-else-taps-lt33554432 : goal.returns-else-taps-lt33554432
unfolding taps_allowed
returns-else-taps-lt33554432 c =
    let taps = c.args.taps in
    let above = le-ltb taps 0x2000000 c.if-taps-lt33554432.false in
    above ∙ sym (ap (λ (below : Bool). below && eqb (digit 0 taps) 1) above)
