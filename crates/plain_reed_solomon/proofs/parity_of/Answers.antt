-- Byte by byte: the register has taken the bytes so far (`Fed`), and what it holds after all is the parity (`parity_feed`).
use native.Mathlib.Omega.{arith}
use mathlib.Core.Path.{sym, ◌∙◌}
use Rattle.field.specs.Field.{times}
use Rattle.reed_solomon.proofs.Laws.{fed_start, fed_turn, fed_all, parity_feed}
use Rattle.plain_reed_solomon.proofs.parity_of.Goals as goal

pub loop-byte-init : goal.loop-byte-init
loop-byte-init c = fed_start times c.args.message.now

pub shift-next-requires : goal.shift-next-requires
shift-next-requires c = c.generator-coefficients.ensures

pub loop-byte-preserved : goal.loop-byte-preserved
loop-byte-preserved c = fed_turn c.loop-byte.invariant (omega arith) c.shift-next.ensures

pub returns : goal.returns
returns c = fed_all c.loop-byte.invariant (omega arith) ∙ sym (parity_feed c.args.message.now)
