-- Place by place: the repair of the places that are left stays the repair of all (`fix_turn`), and the sums are those of the word as far as it is
-- repaired (`sums_set`).
use Rattle.std.proofs.Common.{◌<◌, ◌≤◌, length, get_or, take, rules, arith}
use Rattle.std.proofs.Math.Seq.{length-take-le}
use Rattle.nearest.proofs.ErrorTurns.{fix_end, fix_place, fix_turn, number_here}
use Rattle.nearest.proofs.SumLaws.{sums_set}
use Rattle.nearest.proofs.errors.fix_all.Goals as goal

pub overflow_sub-fixed : goal.overflow_sub-fixed
overflow_sub-fixed c =
    let wrong = c.args.wrong.now in
    omega (arith, fix_place wrong.at wrong.numbers wrong.count c.loop-i.i (omega arith) (omega arith) wrong.numbered c.requires.1)

pub loop-i-preserved : goal.loop-i-preserved
loop-i-preserved c =
    let loop = c.loop-i in
    let wrong = c.args.wrong.now in
    let error = c.error_at-error in
    let more : loop.i < wrong.count = omega arith in
    let fits : wrong.count ≤ length wrong.at = omega arith in
    let below = fix_place wrong.at wrong.numbers wrong.count loop.i more fits wrong.numbered c.requires.1 in
    let number = number_here wrong.at wrong.numbers wrong.count loop.i more fits wrong.numbered in (
      search rules,
      fix_turn wrong.at wrong.numbers wrong.count loop.i more fits wrong.numbered c.args.sums loop.fixed.word c.others-others.result _ error.result
          c.others-others.ensures error.ensures loop.invariant.1,
      sums_set loop.fixed.word loop.fixed.sums c.sums_with-fixed.result (get_or wrong.at loop.i 0) error.result (get_or wrong.numbers loop.i 0) loop.invariant.0
          below number loop.invariant.2 (search rules) c.sums_with-fixed.ensures,
    )

pub returns : goal.returns
returns c =
    let loop = c.loop-i in
    let wrong = c.args.wrong.now in
    let long = length-take-le wrong.count wrong.at (omega arith) in
    (fix_end c.args.sums (take wrong.count wrong.at) loop.fixed.word _ loop.i (omega (arith, long)) loop.invariant.1, loop.invariant.2)
