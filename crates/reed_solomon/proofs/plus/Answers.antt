-- Place by place: those that are done hold the sum's (`Filled`).
use Rattle.std.proofs.Common.{◌≡◌, length, rules, arith, sym}
use lib.ListN.{length-replicate, length-set}
use Rattle.basics.proofs.Fill.{filled_more, filled_all}
use Rattle.division.specs.Division.{plus}
use Rattle.division.proofs.Register.{plus_length, plus_get_or}
use Rattle.reed_solomon.proofs.plus.Goals as goal

pub loop-i-init : goal.loop-i-init
loop-i-init g c = (length-replicate g.row.N 0, λ k h. absurd (omega arith))

pub loop-i-preserved : goal.loop-i-preserved
loop-i-preserved g c =
    let loop = c.loop-i in
    let a = c.args.a in
    let b = c.args.b.now in (
      simp length-set loop.invariant.0,
      filled_more (plus a b) loop.sum loop.i _ loop.invariant.1 (omega arith) (sym (plus_get_or a b loop.i)),
    )

pub returns : goal.returns
returns g c =
    let loop = c.loop-i in
    let n = g.row.N in
    let a = c.args.a in
    let b = c.args.b.now in
    let long : length a ≡ n = search rules in
    filled_all (plus a b) loop.sum n (λ k h. loop.invariant.1 k (omega arith)) loop.invariant.0 (plus_length a b n long c.requires)
