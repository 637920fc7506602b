-- Number by number: the buffer is as one write of the bytes of the first i leaves it (`numbers_turn`), so that in the end all are written.
use native.Mathlib.Omega.{arith}
use mathlib.Core.Path.{ap, ◌∙◌}
use Prim.Native.Nat.{◌*◌}
use lib.ListN.{get_or}
use lib.Seq.{take_all}
use Rattle.basics.specs.Numbers.{low_first}
use Rattle.lent.specs.Written.{written}
use Rattle.lent.specs.Numbers.{bytes_of}
use Rattle.lent.proofs.Bytes.{numbers_start, numbers_turn}
use Rattle.lent.proofs.numbers.write_numbers.Goals as goal

pub loop-i-init : goal.loop-i-init
loop-i-init c = numbers_start c.args.buffer.now c.args.numbers.now

pub loop-i-preserved : goal.loop-i-preserved
loop-i-preserved c =
    let loop = c.loop-i in
    let numbers = c.args.numbers.now in
    c.write_number.ensures ∙ ap (λ l. written l (8 * loop.i) (low_first 8 (get_or numbers loop.i 0))) loop.invariant
    ∙ numbers_turn c.args.buffer.now numbers loop.i (omega arith) c.requires

pub returns : goal.returns
returns c =
    let loop = c.loop-i in
    let args = c.args in
    loop.invariant ∙ ap (λ l. written args.buffer.now 0 (bytes_of l)) (take_all loop.i args.numbers.now (omega arith))
