-- N numbers a turn: the invariant and its turns are those of `Extending` in Holds.antt.
use Rattle.scrambler.specs.Keys.{places_from}
use Rattle.scrambler.proofs.Holds.{Extending}
use Rattle.scrambler.proofs.levels.extend.Given as goal

abbrev pub invariant-loop-i : goal.invariant-loop-i
invariant-loop-i g l = Extending g.row.N (places_from 25 0 l.recurrence.taps) l.initial.numbers l.i l.numbers
