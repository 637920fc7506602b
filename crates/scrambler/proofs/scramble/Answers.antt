-- Stretch by stretch: the invariant and its turns are those of `Scrambling` in Words.antt. The loop ends at the place of the last stretch, at its head or
-- after a turn.
use mathlib.Core.Path.{refl, ap, ◌∙◌}
use Prim.Native.Nat.{◌+◌, ◌-◌, ◌*◌, ◌/◌}
use lib.ListN.{length}
use native.Mathlib.Omega.{arith}
use Rattle.scrambler.specs.Scrambler.{scrambled}
use Rattle.scrambler.proofs.Words.{Scrambling, scrambling_start, scrambling_same, scrambling_turn, scrambling_end}
use Rattle.scrambler.proofs.scramble.Goals as goal
use Rattle.scrambler.proofs.scramble.Goals.{else-loop-at-test, then-loop-at-test+else-last-at-gt400}

pub loop-at-init : goal.loop-at-init
loop-at-init c = (omega arith, refl, scrambling_start c.first_words-words.ensures)

pub loop-at-preserved : goal.loop-at-preserved
loop-at-preserved c =
    let loop = c.loop-at in (
      omega arith,
      omega arith,
      scrambling_turn loop.invariant.2 (loop.at + 400 - loop.at) (omega arith) (omega arith) c.add_words.ensures c.extend.ensures c.move_on.ensures,
    )

pub returns : goal.returns
returns c =
    let loop = c.loop-at in
    let last = c.saturating_sub.result / 400 * 400 in
    let there : Scrambling c.of-recurrence.result.taps c.args.bytes.now last c.loop-at-test.bytes c.loop-at-test.words =
    elim c.loop-at-test.branch [
      | else-loop-at-test w ↦ scrambling_same loop.invariant.2 (omega arith) w.bytes-is w.words-is
      | then-loop-at-test+else-last-at-gt400 w ↦
          scrambling_same
          (scrambling_turn loop.invariant.2 (loop.at + 400 - loop.at) (omega arith) (omega arith) w.add_words.ensures w.extend.ensures w.move_on.ensures)
          (omega arith) w.bytes-is w.words-is
    ] in
    scrambling_end there (length c.loop-at-test.bytes - last) (omega arith) c.add_words-2.ensures
    ∙ ap (λ t. scrambled t c.args.bytes.now) c.of-recurrence.ensures
