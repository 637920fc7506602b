-- Tap by tap: the invariant and its turns are those of `Listed` in Places.antt.
use Rattle.scrambler.proofs.Places.{Listed}
use Rattle.scrambler.proofs.sums.Recurrence.of.Given as goal

abbrev pub invariant-loop-place : goal.invariant-loop-place
invariant-loop-place l = Listed l.taps l.places l.count l.place l.rest
