-- Byte by byte: what stands before the index is scrambled, and the rest will be from the stages at hand.
use mathlib.Core.Path.{sym, ap, ◌∙◌, subst}
use Prim.Native.Nat.{ℕ, ◌^◌, ◌<◌}
use native.Mathlib.Omega.{arith}
use lib.Dec.{lit<}
use lib.Bits.{bit_xor}
use lib.ListN.{get_or}
use Rattle.scrambler.proofs.Stages.{after_lt}
use Rattle.scrambler.proofs.KeyBytes.{scrambled_stages}
use Rattle.scrambler.proofs.Steps.{bytes_turn, bytes_end}
use Rattle.plain_scrambler.proofs.scramble.Goals as goal

pub loop-byte-init : goal.loop-byte-init
loop-byte-init c = (lit< tt, sym (scrambled_stages c.args.taps c.args.bytes.now))

pub loop-byte-preserved : goal.loop-byte-preserved
loop-byte-preserved c =
    let at = c.loop-byte in
    let taps = c.args.taps in
    let key = c.key_byte-key.ensures in (
      subst (λ (x : ℕ). x < 2 ^ 25) (sym key.1) (after_lt taps 8 at.stages at.invariant.0),
      bytes_turn taps at.stages at.bytes at.byte-index _ _ (omega arith) (ap (bit_xor (get_or at.bytes at.byte-index 0)) key.0) key.1 ∙ at.invariant.1,
    )

pub returns : goal.returns
returns c =
    let at = c.loop-byte in
    sym (bytes_end c.args.taps at.stages at.bytes at.byte-index (omega arith)) ∙ at.invariant.1
