-- A turn leaves out eight bytes and keeps the check sum of the rest (`fold_turn`), so that of the last 124 is that of the message.
use mathlib.Core.Path.{◌≡◌}
use Prim.Native.Nat.{◌≤◌, ◌%◌}
use lib.ListN.{drop}
use Rattle.crc.specs.Crc.{crc_32}
use Rattle.crc.proofs.crc_32.Given as goal

abbrev pub invariant-loop-at : goal.invariant-loop-at
invariant-loop-at l = (l.at ≤ 1784) × (l.at % 8 ≡ 0) × (crc_32 (drop l.at l.bytes) ≡ crc_32 l.message)
