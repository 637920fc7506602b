-- Behind the buffer's end, before it, or in two parts.
use Prim.Native.Nat.{ℕ, ◌+◌, ◌-◌}
use Rattle.ring.proofs.Laws.{part_near, part_far, copied_over}
use mathlib.Core.List.{List}
use mathlib.Core.Path.{ap, ◌∙◌}
use native.Mathlib.Omega.{arith}
use lib.ListN.{length, take}
use Rattle.basics.proofs.Lists.{cut_part}
use Rattle.lent.specs.Written.{written}
use Rattle.ring.proofs.copy_out.Goals as goal

pub returns-then-near-at : goal.returns-then-near-at
returns-then-near-at c =
    c.write_at.ensures ∙ ap (written c.args.out.now c.args.to) (cut_part c.args.buffer.now _ c.args.n
    ∙ part_far c.args.start c.args.buffer.now c.requires.0 c.args.at c.args.n
    c.if-near-at.true c.requires.1)

pub returns-then-n-before : goal.returns-then-n-before
returns-then-n-before c =
    c.write_at-then-n-before.ensures ∙ ap (written c.args.out.now c.args.to)
    (cut_part c.args.buffer.now (c.args.start + c.args.at) c.args.n
    ∙ part_near c.args.start c.args.buffer.now c.requires.0 c.args.at c.args.n (omega arith))

pub returns : goal.returns
returns c =
    let before = length c.args.buffer.now - c.args.start - c.args.at in
    c.write_at-3.ensures
    ∙ ap (λ (w : List ℕ). written w (c.args.to + before) (take (c.args.n - before) c.args.buffer.now)) c.write_at-2.ensures
    ∙ copied_over c.args.out.now c.args.to c.args.start c.args.buffer.now c.args.at c.args.n before
    c.requires.2 c.requires.0 c.requires.1 (omega arith) (omega arith)
