-- N numbers a turn: the invariant and its turns are those of `Extending` in Holds.antt.
use mathlib.Core.Path.{subst, sym}
use mathlib.Core.List.{List}
use Prim.Native.Nat.{ℕ, ◌*◌, ◌+◌, ◌-◌}
use lib.ListN.{take, drop}
use native.Mathlib.Omega.{arith}
use Rattle.scrambler.specs.Keys.{places_from, Sums}
use Rattle.scrambler.proofs.Places.{places_below}
use Rattle.scrambler.proofs.Holds.{extending_start, extending_turn, extending_end}
use Rattle.scrambler.proofs.levels.extend.Goals as goal

pub loop-i-init : goal.loop-i-init
loop-i-init g c = extending_start c.told-numbers

pub loop-i-preserved : goal.loop-i-preserved
loop-i-preserved g c =
    let loop = c.loop-i in
    let taps = c.args.recurrence.now.taps in
    let n = g.row.N in
    let copied = c.copy_from_slice in
    let at = n * (loop.i + 25) in
    let wide = at - n * loop.i in
    let part = λ (sums : List ℕ). Sums n (places_from 25 0 taps) (take wide (drop (n * loop.i) loop.numbers)) sums in
    extending_turn loop.invariant (at + n - at) wide (omega arith) (omega arith) (places_below 25 0 taps) c.requires c.loop-i-test.true copied.ensures.len
    (subst part (sym copied.ensures.after) c.sums_of-sums.ensures)

pub returns : goal.returns
returns g c = extending_end c.loop-i.invariant c.loop-i-test.false
