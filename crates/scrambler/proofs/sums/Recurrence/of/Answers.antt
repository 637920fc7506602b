-- Tap by tap: the invariant and its turns are those of `Listed` in Places.antt.
use mathlib.Core.Path.{refl}
use native.Mathlib.Omega.{arith}
use Rattle.scrambler.proofs.Places.{listed_start, listed_turn, listed_end}
use Rattle.scrambler.proofs.sums.Recurrence.of.Goals as goal

pub loop-place-init : goal.loop-place-init
loop-place-init c = listed_start refl

pub loop-place-preserved : goal.loop-place-preserved
loop-place-preserved c = listed_turn c.loop-place.invariant c.loop-place-test.true

pub invariant_of-result : goal.invariant_of-result
invariant_of-result c =
    let done = c.loop-place.invariant in
    record { few = omega (arith, done.few); listed = listed_end done c.loop-place-test.false }
