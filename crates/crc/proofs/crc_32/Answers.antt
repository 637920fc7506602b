-- A turn leaves out eight bytes and keeps the check sum of the rest (`fold_turn`), so that of the last 124 is that of the message.
use native.Mathlib.Omega.{arith}
use mathlib.Core.Path.{◌≡◌, refl, ap, ◌∙◌}
use Rattle.crc.specs.Crc.{crc_32}
use Rattle.crc.proofs.Folding.{to_the_end, fold_turn}
use Rattle.crc.proofs.crc_32.Goals as goal

pub returns-in_default : goal.returns-in_default
unfolding crc_32
returns-in_default c = c.check_sum.ensures

pub loop-at-init : goal.loop-at-init
loop-at-init c = (omega arith, refl, ap crc_32 c.in-Ok.ensures.1.same)

pub loop-at-preserved : goal.loop-at-preserved
loop-at-preserved c =
    let at = c.loop-at in
    let folded = c.fold in (
      omega arith,
      omega arith,
      fold_turn at.bytes folded.new.bytes 1908 at.at c.loop-at-test.array_long (omega arith) folded.ensures ∙ at.invariant.2,
    )

pub returns : goal.returns
unfolding crc_32
returns c =
    let at = c.loop-at in
    let end : at.at ≡ 1784 = omega arith in
    c.check_sum-2.ensures ∙ ap crc_32 (to_the_end at.bytes 1908 1784 c.loop-at-test.array_long) ∙ rw end at at.invariant.2
