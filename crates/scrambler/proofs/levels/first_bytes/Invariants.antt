-- Byte by byte, with the stages that come next.
use mathlib.Core.Path.{◌≡◌}
use Prim.Native.Nat.{◌*◌}
use Rattle.scrambler.specs.Scrambler.{after, first_stages, key_byte}
use Rattle.scrambler.specs.Keys.{Holds}
use Rattle.scrambler.proofs.levels.first_bytes.Given as goal

abbrev pub invariant-loop-number : goal.invariant-loop-number
invariant-loop-number l =
    (l.stages ≡ after l.taps (8 * l.number-index) first_stages) × Holds (key_byte l.taps) l.number-index l.number-items
