-- No room for a mark, or the mark that stands there, judged: the laws of Lengths.antt.
use Rattle.std.proofs.Common.{ap, ◌∙◌, arith, unwrap_or, Option, ℕ}
use Rattle.list.proofs.Lengths.{no_mark, found}
use Rattle.list.proofs.length_at.Goals as goal
use Rattle.list.proofs.length_at.Goals.{then-list-lt2-via-then-list-lt2, then-list-lt2-via-else-list-lt2+then-list-position}

pub returns-then-list-lt2-clause-value : goal.returns-then-list-lt2-clause-value
returns-then-list-lt2-clause-value c = no_mark c.args.list.now c.args.position (
    elim c.then-list-lt2.branch [
      | then-list-lt2-via-then-list-lt2 w ↦ omega arith
      | then-list-lt2-via-else-list-lt2+then-list-position w ↦ omega arith
    ])

pub returns-clause-value : goal.returns-clause-value
returns-clause-value c =
    ap (λ (o : Option ℕ). unwrap_or o 0) c.then_some.ensures
    ∙ found c.args.list.now c.args.position _ c.mark_at-length.ensures _ c.is_length.ensures
