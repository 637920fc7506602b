-- Byte by byte: the invariant and its turns are those of `Adding` in Words.antt.
use lib.Seq.{length-take-le}
use native.Mathlib.Omega.{arith}
use Rattle.scrambler.proofs.Words.{adding_start, adding_turn, adding_end, added_front}
use Rattle.scrambler.proofs.add_words.Goals as goal

pub loop-i-init : goal.loop-i-init
loop-i-init c = adding_start (length-take-le 50 c.args.words.now (omega arith)) c.requires c.write_numbers.ensures

pub loop-i-preserved : goal.loop-i-preserved
loop-i-preserved c = adding_turn c.loop-i.invariant (omega arith)

pub returns : goal.returns
returns c = added_front (adding_end c.loop-i.invariant (omega arith))
