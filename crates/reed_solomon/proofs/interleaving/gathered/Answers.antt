-- Byte by byte: each is every eighth from k on (`eighth_at`), so that all N are.
use Rattle.std.proofs.Common.{length, arith, sym}
use lib.ListN.{length-replicate, length-set}
use Rattle.basics.proofs.Fill.{filled_more, filled_all}
use Rattle.reed_solomon.specs.Payload.{every_eighth}
use Rattle.reed_solomon.proofs.Interleaved.{eighth_at, eighth_length}
use Rattle.reed_solomon.proofs.interleaving.gathered.Goals as goal

pub loop-i-init : goal.loop-i-init
loop-i-init g c = (length-replicate g.row.N 0, λ j h. absurd (omega arith))

pub loop-i-preserved : goal.loop-i-preserved
loop-i-preserved g c =
    let n = g.row.N in
    let k = c.args.k in
    let bytes = c.args.bytes.now in
    let loop = c.loop-i in (
      simp length-set loop.invariant.0,
      filled_more (every_eighth n k bytes) loop.word loop.i _ loop.invariant.1 (omega arith) (sym (eighth_at n k bytes loop.i (omega arith))),
    )

pub returns : goal.returns
returns g c =
    let n = g.row.N in
    let k = c.args.k in
    let bytes = c.args.bytes.now in
    let loop = c.loop-i in
    filled_all (every_eighth n k bytes) loop.word n (λ j h. loop.invariant.1 j (omega arith)) loop.invariant.0 (eighth_length n k bytes)
