-- Stretch by stretch: the invariant and its turns are those of `Scrambling` in Words.antt.
use mathlib.Core.Path.{◌≡◌}
use Prim.Native.Nat.{◌%◌, ◌≤◌}
use Rattle.scrambler.proofs.Words.{Scrambling}
use Rattle.scrambler.proofs.scramble.Given as goal

abbrev pub invariant-loop-at : goal.invariant-loop-at
invariant-loop-at l = (l.at ≤ l.last) × (l.at % 400 ≡ 0) × Scrambling l.recurrence.taps l.initial.bytes l.at l.bytes l.words
