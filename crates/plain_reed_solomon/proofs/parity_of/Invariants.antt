-- Byte by byte: the register has taken the bytes so far (`Fed`), and what it holds after all is the parity (`parity_feed`).
use Rattle.field.specs.Field.{times}
use Rattle.reed_solomon.proofs.Laws.{Fed}
use Rattle.plain_reed_solomon.proofs.parity_of.Given as goal

abbrev pub invariant-loop-byte : goal.invariant-loop-byte
invariant-loop-byte l = Fed times l.message l.byte-index l.register
