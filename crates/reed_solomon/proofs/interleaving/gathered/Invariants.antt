-- Byte by byte: those before i are every eighth from k on (`Filled`).
use mathlib.Core.Path.{◌≡◌}
use lib.ListN.{length}
use Rattle.basics.proofs.Fill.{Filled}
use Rattle.reed_solomon.specs.Payload.{every_eighth}
use Rattle.reed_solomon.proofs.interleaving.gathered.Given as goal

abbrev pub invariant-loop-i : goal.invariant-loop-i
invariant-loop-i g l = (length l.word ≡ g.row.N) × Filled (every_eighth g.row.N l.k l.bytes) l.i l.word
