-- Bit by bit: the byte so far and the bits that remain are the key from the stages given.
use mathlib.Core.Path.{◌≡◌, sym, ap, ◌∙◌, subst}
use Prim.Native.Nat.{ℕ, ◌+◌, ◌-◌, ◌*◌, ◌%◌, ◌^◌, ◌<◌, ◌≤◌}
use native.Mathlib.Omega.{arith}
use Rattle.scrambler.specs.Scrambler.{next, after}
use Rattle.scrambler.specs.Keys.{key}
use Rattle.scrambler.proofs.Stages.{next_lt}
use Rattle.scrambler.proofs.Steps.{key_turn, after_turn, key_end, after_end, room}
use Rattle.scrambler.proofs.bits.key_byte.Goals as goal

pub overflow_mul-byte : goal.overflow_mul-byte
overflow_mul-byte c =
    let at = c.loop in
    omega (arith, room c.args.taps at.byte at.later (8 - at.counter) c.args.stages (omega arith) at.invariant.1)

pub overflow_add-byte : goal.overflow_add-byte
overflow_add-byte c =
    let at = c.loop in
    omega (arith, room c.args.taps at.byte at.later (8 - at.counter) c.args.stages (omega arith) at.invariant.1)

pub loop-preserved : goal.loop-preserved
loop-preserved c =
    let at = c.loop in
    let taps = c.args.taps in
    let more : 0 < 8 - at.counter = omega arith in
    let e = c.step-later.ensures in
    let n : 8 - (at.counter + 1) ≡ 8 - at.counter - 1 = omega arith in (
      subst (λ (x : ℕ). x < 2 ^ 25) (sym e) (next_lt taps at.later at.invariant.0),
      ap (λ (x : ℕ). (at.byte * 2 + at.later % 2) * 2 ^ (8 - (at.counter + 1)) + key taps (8 - (at.counter + 1)) x) e
          ∙ ap (λ (m : ℕ). (at.byte * 2 + at.later % 2) * 2 ^ m + key taps m (next taps at.later)) n
          ∙ key_turn taps at.byte at.later (8 - at.counter) more ∙ at.invariant.1,
      ap (after taps (8 - (at.counter + 1))) e ∙ ap (λ (m : ℕ). after taps m (next taps at.later)) n
          ∙ after_turn taps at.later (8 - at.counter) more ∙ at.invariant.2,
    )

pub returns : goal.returns
returns c =
    let at = c.loop in
    let taps = c.args.taps in
    let done : 8 - at.counter ≤ 0 = omega arith in (
      sym (key_end taps at.byte at.later (8 - at.counter) done) ∙ at.invariant.1,
      sym (after_end taps at.later (8 - at.counter) done) ∙ at.invariant.2,
    )
