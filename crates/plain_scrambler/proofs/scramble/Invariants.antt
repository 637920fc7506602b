-- Byte by byte: what stands before the index is scrambled, and the rest will be from the stages at hand.
use mathlib.Core.Path.{◌≡◌}
use mathlib.Core.List.{◌++◌}
use Prim.Native.Nat.{◌^◌, ◌<◌}
use lib.ListN.{take, drop}
use Rattle.scrambler.specs.Scrambler.{scrambled}
use Rattle.scrambler.specs.Keys.{scrambled_from}
use Rattle.plain_scrambler.proofs.scramble.Given as goal

abbrev pub invariant-loop-byte : goal.invariant-loop-byte
invariant-loop-byte l =
    (l.stages < 2 ^ 25)
    × (take l.byte-index l.bytes ++ scrambled_from l.taps l.stages (drop l.byte-index l.bytes) ≡ scrambled l.taps l.initial.bytes)
