-- Byte by byte: the bytes left, spread over what is written so far, give what spreading all gives (`spread_turn`); in the end none is left.
use Rattle.std.proofs.Common.{◌≡◌, ◌+◌, ◌*◌, length, drop}
use Rattle.reed_solomon.specs.Rows.{spread}
use Rattle.repairing.proofs.body.write_word.Given as goal

abbrev pub invariant-loop-j : goal.invariant-loop-j
invariant-loop-j l =
    (length l.payload ≡ length l.initial.payload) × (spread (drop l.j l.word) (l.k + 8 * l.j) l.payload ≡ spread l.word l.k l.initial.payload)
