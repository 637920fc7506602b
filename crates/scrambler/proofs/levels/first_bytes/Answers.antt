-- Byte by byte, with the stages that come next.
use mathlib.Core.Path.{refl, sym, ap, ◌∙◌}
use Prim.Native.Nat.{◌*◌}
use lib.Dec.{lit<}
use native.Mathlib.Omega.{arith}
use Rattle.scrambler.specs.Scrambler.{after, first_stages}
use Rattle.scrambler.specs.Keys.{key}
use Rattle.scrambler.proofs.Stages.{after_lt}
use Rattle.scrambler.proofs.KeyBytes.{key_byte_lem}
use Rattle.scrambler.proofs.Holds.{holds_none, holds_more, holds_less, holds_before}
use Rattle.scrambler.proofs.Words.{stages_later}
use Rattle.scrambler.proofs.levels.first_bytes.Goals as goal

pub loop-number-init : goal.loop-number-init
unfolding after
loop-number-init c = (refl, holds_none)

pub key_byte-key-requires : goal.key_byte-key-requires
key_byte-key-requires c =
    let at = c.loop-number in
    omega (arith, after_lt c.args.taps (8 * at.number-index) first_stages (lit< tt))

pub loop-number-preserved : goal.loop-number-preserved
loop-number-preserved c =
    let at = c.loop-number in
    let taps = c.args.taps in
    let made = c.key_byte-key.ensures in (
      made.1 ∙ ap (after taps 8) at.invariant.0 ∙ sym (stages_later taps at.number-index 1),
      holds_more at.invariant.1 (omega arith) (made.0 ∙ ap (key taps 8) at.invariant.0 ∙ sym (key_byte_lem taps at.number-index)),
    )

pub returns : goal.returns
returns c =
    let at = c.loop-number in
    holds_before _ (omega arith) (holds_less (omega arith) at.invariant.1)
