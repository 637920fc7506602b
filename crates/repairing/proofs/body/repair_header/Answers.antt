-- The copy is the header, so that the search answers of the header; what it finds is written over it, and otherwise the header stays.
use Rattle.std.proofs.Common.{◌≡◌, Some, None, List, ℕ, take, sym, ap, ◌∙◌, subst, rules, arith}
use Rattle.std.specs.Prelude.{is_some}
use Rattle.basics.specs.Lists.{Bytes}
use Rattle.basics.proofs.Lists.{bytes_each, bytes_take}
use Rattle.lent.specs.Written.{written}
use Rattle.lent.proofs.Written.{written_own}
use Rattle.reed_solomon.specs.Code.{remainder_of, lengthened}
use Rattle.nearest.specs.Near.{near_header, or_own, repaired_header}
use Rattle.repairing.proofs.body.repair_header.Goals as goal

-- what is near is what the header is repaired to
repaired_near : (header near : List ℕ) → near_header header ≡ Some near → repaired_header header ≡ near
unfolding repaired_header
repaired_near header near e = ap (λ o. or_own o header) e

repaired_none : (header : List ℕ) → near_header header ≡ None → repaired_header header ≡ header
unfolding repaired_header
repaired_none header e = ap (λ o. or_own o header) e

pub repair_header-requires : goal.repair_header-requires
repair_header-requires c =
    let body = c.args.body.now in
    let own = sym c.copy_from_slice.ensures.after in
    (subst Bytes own (bytes_take 32 body (bytes_each body (λ i. search rules))), c.requires ∙ ap (λ l. remainder_of (lengthened l)) own)

pub returns-in_default : goal.returns-in_default
returns-in_default c =
    let body = c.args.body.now in
    let none : near_header (take 32 body) ≡ None = ap near_header (sym c.copy_from_slice.ensures.after) ∙ sym c.repair_header.ensures ∙ c.in_default.is in
    (sym (ap is_some none), sym (ap (written body 0) (repaired_none (take 32 body) none) ∙ written_own body 32 (omega arith)))

pub returns : goal.returns
returns c =
    let body = c.args.body.now in
    let near : near_header (take 32 body) ≡ Some c.in-Some.header =
    ap near_header (sym c.copy_from_slice.ensures.after) ∙ sym c.repair_header.ensures ∙ c.in-Some.is in
    (sym (ap is_some near), c.write_at.ensures ∙ ap (written body 0) (sym (repaired_near (take 32 body) c.in-Some.header near)))
