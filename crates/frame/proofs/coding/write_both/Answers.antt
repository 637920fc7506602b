-- Writing the second part where the first ends is writing both as one (`written_append`), since together they are within the buffer.
use Rattle.std.proofs.Common.{sym, ap, ◌∙◌, arith, length}
use Rattle.std.proofs.Math.Nat.{zero-add}
use Rattle.lent.specs.Written.{written}
use Rattle.lent.proofs.Written.{written_append}
use Rattle.frame.proofs.coding.write_both.Goals as goal

pub returns : goal.returns
returns c =
    let buffer = c.args.buffer.now in
    let first = c.args.first.now in
    let second = c.args.second.now in
    c.write_at-2.ensures ∙ ap (λ l. written l (length first) second) c.write_at.ensures
    ∙ ap (λ n. written (written buffer 0 first) n second) (sym (zero-add (length first))) ∙ written_append buffer 0 first second (omega arith)
