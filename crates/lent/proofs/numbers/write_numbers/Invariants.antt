-- Number by number: the buffer is as one write of the bytes of the first i leaves it (`numbers_turn`), so that in the end all are written.
use mathlib.Core.Path.{◌≡◌}
use lib.ListN.{take}
use Rattle.lent.specs.Written.{written}
use Rattle.lent.specs.Numbers.{bytes_of}
use Rattle.lent.proofs.numbers.write_numbers.Given as goal

abbrev pub invariant-loop-i : goal.invariant-loop-i
invariant-loop-i l = l.buffer ≡ written l.initial.buffer 0 (bytes_of (take l.i l.numbers))
