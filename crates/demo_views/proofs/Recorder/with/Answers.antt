-- The recorder with one block more. Its counts are kept modulo 2^64.
use Rattle.std.proofs.Common.{◌≡◌, ℕ, ◌+◌, ◌%◌, ◌^◌, cond, eqb, [], ◌∷◌, sym, ap, ◌∙◌, arith, length-append, refl}
use Rattle.demo_views.specs.Views.{gaps_from}
use Rattle.demo_views.proofs.Following.{due_more, gaps_more}
use Rattle.demo_views.proofs.Recorder.with.Goals as goal

-- a count modulo 2^64 with some more
counted : (r n total sum more : ℕ) → r ≡ (n + more) % 2 ^ 64 → n ≡ total % 2 ^ 64 → sum ≡ total + more → r ≡ sum % 2 ^ 64
counted r n total sum more e h s = omega arith

pub returns : goal.returns
returns c =
    λ came h.
    let number = c.args.number in
    record {
      blocks = counted _ _ _ _ 1 refl h.blocks (length-append came (number ∷ []));
      gaps =
          counted _ _ _ _ _ refl h.gaps
          (gaps_more 0 came number ∙ ap (λ (due : ℕ). gaps_from 0 came + cond (eqb number due) 0 1) (sym h.due)
          ∙ ap (λ (more : ℕ). gaps_from 0 came + more) (sym c.gaps_before-more.ensures));
      due = sym (due_more 0 came number);
    }
