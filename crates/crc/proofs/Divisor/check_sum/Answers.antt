-- A turn takes one byte (`bytes_turn`): what the bytes that are left make of the register is the check sum of the message.
use mathlib.Core.Path.{sym, ◌∙◌}
use Rattle.crc.proofs.Bytes.{crc_bytes, bytes_turn, bytes_end}
use Rattle.crc.proofs.Divisor.check_sum.Goals as goal

pub loop-byte-init : goal.loop-byte-init
loop-byte-init c = sym (crc_bytes 31 c.args.self.polynomial c.args.self.of_degree_32 c.args.message.now)

pub loop-byte-preserved : goal.loop-byte-preserved
loop-byte-preserved c =
    let at = c.loop-byte in
    bytes_turn 32 c.args.self.polynomial at.register c.byte_step-register.result c.args.message.now at.byte-index c.loop-byte-test.true c.byte_step-register.ensures
    ∙ at.invariant

pub returns : goal.returns
returns c =
    let at = c.loop-byte in
    sym (bytes_end 32 c.args.self.polynomial at.register c.args.message.now at.byte-index c.loop-byte-test.false) ∙ at.invariant
