-- Word by word: the parities of the words before k are written (`parities_more`), and with all eight the payload is the coded one (`all_parities`).
use mathlib.Core.Path.{◌≡◌}
use Rattle.plain_reed_solomon.proofs.Writes.{with_parities}
use Rattle.plain_reed_solomon.proofs.write_parity.Given as goal

abbrev pub invariant-loop-k : goal.invariant-loop-k
invariant-loop-k l = (l.payload ≡ with_parities l.k l.initial.payload)
