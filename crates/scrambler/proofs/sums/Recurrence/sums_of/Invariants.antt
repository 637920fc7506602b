-- Place by place, and for each the N sums one after the other: the invariants are `Summing` of Places.antt.
use Rattle.scrambler.proofs.Places.{Summing}
use Rattle.scrambler.proofs.sums.Recurrence.sums_of.Given as goal

abbrev pub invariant-loop-place : goal.invariant-loop-place
invariant-loop-place g l = Summing g.row.N l.place-index 0 l.place-items l.numbers l.sums

abbrev pub invariant-loop-i : goal.invariant-loop-i
invariant-loop-i g l = Summing g.row.N l.place-index l.i l.place-items l.numbers l.sums
