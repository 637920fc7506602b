-- Pair by pair: the invariant and its turns are those of `Replacing` in Holds.antt.
use Rattle.scrambler.specs.Keys.{pair_of}
use Rattle.scrambler.proofs.Holds.{Replacing}
use Rattle.scrambler.proofs.levels.pair.Given as goal

abbrev pub invariant-loop-i : goal.invariant-loop-i
invariant-loop-i l = Replacing (pair_of l.unit l.initial.numbers) l.initial.numbers l.i l.numbers
