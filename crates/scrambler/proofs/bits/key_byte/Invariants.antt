-- Bit by bit: the byte so far and the bits that remain are the key from the stages given.
use mathlib.Core.Path.{◌≡◌}
use Prim.Native.Nat.{◌+◌, ◌-◌, ◌*◌, ◌^◌, ◌<◌}
use Rattle.scrambler.specs.Scrambler.{after}
use Rattle.scrambler.specs.Keys.{key}
use Rattle.scrambler.proofs.bits.key_byte.Given as goal

abbrev pub invariant-loop : goal.invariant-loop
invariant-loop l =
    (l.later < 2 ^ 25) × (l.byte * 2 ^ (8 - l.counter) + key l.taps (8 - l.counter) l.later ≡ key l.taps 8 l.stages)
    × (after l.taps (8 - l.counter) l.later ≡ after l.taps 8 l.stages)
