-- Byte by byte: the invariant and its turns are those of `Adding` in Words.antt.
use lib.ListN.{take}
use Rattle.scrambler.proofs.Words.{Adding}
use Rattle.scrambler.proofs.add_words.Given as goal

abbrev pub invariant-loop-i : goal.invariant-loop-i
invariant-loop-i l = Adding (take 50 l.words) l.initial.bytes l.key l.i l.bytes
