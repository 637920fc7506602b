-- Pair by pair: the invariant and its turns are those of `Replacing` in Holds.antt.
use native.Mathlib.Omega.{arith}
use Rattle.scrambler.proofs.Holds.{replacing_start, replacing_turn, pair_fits, pair_is, holds_less}
use Rattle.scrambler.proofs.levels.pair.Goals as goal

pub loop-i-init : goal.loop-i-init
loop-i-init c = replacing_start

pub overflow_mul-numbers-in-loop-i : goal.overflow_mul-numbers-in-loop-i
overflow_mul-numbers-in-loop-i c =
    omega (arith, pair_fits c.args.unit c.loop-i.invariant (omega arith) c.requires.0 c.requires.1)

pub overflow_add-numbers-in-loop-i : goal.overflow_add-numbers-in-loop-i
overflow_add-numbers-in-loop-i c =
    omega (arith, pair_fits c.args.unit c.loop-i.invariant (omega arith) c.requires.0 c.requires.1)

pub loop-i-preserved : goal.loop-i-preserved
loop-i-preserved c =
    let loop = c.loop-i in
    replacing_turn loop.invariant (omega arith) (pair_is c.args.unit loop.invariant)

pub returns : goal.returns
returns c = record { pairs = holds_less (omega arith) c.loop-i.invariant.new }
