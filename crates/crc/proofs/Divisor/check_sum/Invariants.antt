-- A turn takes one byte (`bytes_turn`): what the bytes that are left make of the register is the check sum of the message.
use mathlib.Core.Path.{◌≡◌}
use lib.ListN.{drop}
use Rattle.crc.specs.Crc.{crc}
use Rattle.crc.proofs.Bytes.{byte_steps}
use Rattle.crc.proofs.Divisor.check_sum.Given as goal

abbrev pub invariant-loop-byte : goal.invariant-loop-byte
invariant-loop-byte l = byte_steps 32 l.self.polynomial l.register (drop l.byte-index l.message) ≡ crc 32 l.self.polynomial l.message
