-- Byte by byte: the bytes left, spread over what is written so far, give what spreading all gives (`spread_turn`); in the end none is left.
use native.Mathlib.Omega.{arith}
use mathlib.Core.Path.{sym, ◌∙◌}
use Prim.Native.Nat.{◌+◌, ◌*◌}
use lib.ListN.{length-set}
use Rattle.reed_solomon.proofs.Spread.{spread_turn, spread_end}
use Rattle.repairing.proofs.body.write_word.Goals as goal

pub loop-j-preserved : goal.loop-j-preserved
loop-j-preserved c =
    let loop = c.loop-j in
    let args = c.args in (
      simp length-set loop.invariant.0,
      spread_turn args.word loop.payload args.k loop.j (omega arith) ∙ loop.invariant.1,
    )

pub returns : goal.returns
returns c =
    let loop = c.loop-j in
    let args = c.args in
    sym (spread_end args.word loop.payload (args.k + 8 * loop.j) loop.j (omega arith)) ∙ loop.invariant.1
