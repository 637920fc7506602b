-- Place by place, and for each the N sums one after the other: the invariants are `Summing` of Places.antt.
use mathlib.Core.Path.{subst}
use mathlib.Core.List.{List}
use Prim.Native.Nat.{ℕ, ◌+◌, ◌*◌, ◌<◌, ◌≤◌}
use native.Mathlib.Omega.{arith}
use lib.ListN.{length, get_or, take}
use Rattle.scrambler.specs.declared.sums.Recurrence.{Recurrence}
use Rattle.scrambler.specs.Keys.{Sums}
use Rattle.scrambler.proofs.Places.{all_below_lem, place_room, summing_start, summing_turn, summing_next, summing_end}
use Rattle.scrambler.proofs.sums.Recurrence.sums_of.Goals as goal

-- the numbers that one place asks for stand among 25 N
room : (n : ℕ) (me : Recurrence) (m : ℕ) → m < length (take me.count me.places) → n * get_or (take me.count me.places) m 0 + n ≤ 25 * n
room n me m h = place_room n (get_or (take me.count me.places) m 0) ((all_below_lem me.taps me.listed).at m h)

pub loop-place-init : goal.loop-place-init
loop-place-init g c = summing_start

pub overflow_mul-sums : goal.overflow_mul-sums
overflow_mul-sums g c = omega (arith, room g.row.N c.args.self.now c.loop-place.place-index c.loop-place-test.true)

pub overflow_add-sums : goal.overflow_add-sums
overflow_add-sums g c = omega (arith, room g.row.N c.args.self.now c.loop-place.place-index c.loop-place-test.true)

pub offset_bounds-numbers-place : goal.offset_bounds-numbers-place
offset_bounds-numbers-place g c = omega (arith, room g.row.N c.args.self.now c.loop-place.place-index c.loop-place-test.true)

pub bounds-numbers-place : goal.bounds-numbers-place
bounds-numbers-place g c = omega (arith, room g.row.N c.args.self.now c.loop-place.place-index c.loop-place-test.true)

pub loop-i-init : goal.loop-i-init
loop-i-init g c = c.loop-place.invariant

pub loop-i-preserved : goal.loop-i-preserved
loop-i-preserved g c = summing_turn c.loop-i.invariant c.loop-i-test.true c.loop-place-test.true

pub loop-place-preserved : goal.loop-place-preserved
loop-place-preserved g c = summing_next c.loop-i.invariant c.loop-i-test.false

pub returns : goal.returns
returns g c =
    let me = c.args.self.now in
    subst (λ (places : List ℕ). Sums g.row.N places c.args.numbers.now c.loop-place.sums) me.listed
    (summing_end c.loop-place.invariant (omega arith) c.loop-place-test.false)
