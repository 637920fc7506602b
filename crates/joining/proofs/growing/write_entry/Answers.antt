-- Three writes end to end, the mark, the held part and the rest, are one write of the whole entry (`entry_written`).
use mathlib.Core.Path.{ap, ◌∙◌}
use Prim.Native.Nat.{◌+◌}
use lib.ListN.{length}
use Rattle.lent.specs.Written.{written}
use Rattle.joining.proofs.Grown.{entry_written}
use Rattle.joining.proofs.growing.write_entry.Goals as goal

pub returns : goal.returns
returns c =
    let list = c.args.list.now in
    let at = c.args.at in
    let held = c.args.held.now in
    let rest = c.args.rest.now in
    let mark = c.write_at.ensures ∙ ap (λ l. written list at l) c.bytes_of-mark.ensures in
    let front = c.write_at-2.ensures ∙ ap (λ l. written l (at + 2) held) mark in
    c.write_at-3.ensures ∙ ap (λ l. written l (at + 2 + length held) rest) front ∙ entry_written list at held rest c.requires.0
