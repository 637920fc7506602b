-- Byte by byte: the parity bytes left, spread over what is written so far, give what spreading all gives (`spread_turn`); in the end none is left.
use mathlib.Core.Path.{◌≡◌}
use Prim.Native.Nat.{◌+◌, ◌*◌}
use lib.ListN.{length, drop}
use Rattle.reed_solomon.specs.Rows.{spread}
use Rattle.plain_reed_solomon.specs.Word.{with_parity}
use Rattle.plain_reed_solomon.proofs.write_word.Given as goal

abbrev pub invariant-loop-j : goal.invariant-loop-j
invariant-loop-j l =
    (length l.parity ≡ 16) × (length l.payload ≡ length l.initial.payload)
    × (spread (drop l.j l.parity) (1912 + l.k + 8 * l.j) l.payload ≡ with_parity l.k l.initial.payload)
