-- The byte is added at the top (`byte_added`); each turn doubles once (`bits_turn`), so that after n turns 8 - n doublings are left to do.
use mathlib.Core.Path.{refl, sym, ◌∙◌}
use Rattle.crc.proofs.Bytes.{byte_added, bits_turn, bits_end}
use borrow.Author.Rules.{rules}
use Rattle.crc.proofs.Divisor.byte_step.Goals as goal

pub loop-init : goal.loop-init
loop-init c = sym (byte_added 31 c.args.self.polynomial c.args.self.of_degree_32 24 c.args.register c.args.byte refl (search rules) (search rules))

pub loop-preserved : goal.loop-preserved
loop-preserved c =
    bits_turn 32 c.args.self.polynomial c.loop.counter c.loop.sum c.twice-sum.result (search rules) c.twice-sum.ensures ∙ c.loop.invariant

pub returns : goal.returns
returns c = sym (bits_end 32 c.args.self.polynomial c.loop.counter c.loop.sum (search rules)) ∙ c.loop.invariant
