-- Behind the buffer's end, before it, or in two parts.
use Prim.Native.Nat.{ℕ, ◌-◌}
use Rattle.ring.proofs.Laws.{ring_near, ring_far, ring_over}
use mathlib.Core.Path.{ap₂, ◌∙◌}
use mathlib.Core.List.{List}
use Rattle.basics.proofs.Lists.{cut_rest_lem}
use Rattle.lent.specs.Written.{written}
use native.Mathlib.Omega.{arith}
use lib.ListN.{length}
use Rattle.ring.proofs.write_at.Goals as goal

pub returns-then-near-at : goal.returns-then-near-at
returns-then-near-at c =
    c.write_at.ensures
    ∙ ring_far c.args.buffer.now c.args.start c.args.at c.args.bytes.now c.requires.0 c.requires.1
    c.if-near-at.true

pub returns-then-bytes-before : goal.returns-then-bytes-before
returns-then-bytes-before c =
    c.write_at-then-bytes-before.ensures
    ∙ ring_near c.args.buffer.now c.args.start c.args.at c.args.bytes.now c.requires.0 c.requires.1 (omega arith)

pub returns : goal.returns
returns c =
    let before = length c.args.buffer.now - c.args.start - c.args.at in
    c.write_at-3.ensures ∙ ap₂ (λ (w s : List ℕ). written w 0 s) c.write_at-2.ensures (cut_rest_lem c.args.bytes.now before)
    ∙ ring_over c.args.buffer.now c.args.start c.args.at before c.args.bytes.now c.requires.0 c.requires.1
    (omega arith) (omega arith)
