-- The copies are the word and what was left of it, so that the search answers of the word; what it finds fills the lent one, and otherwise the word stays.
use Rattle.std.proofs.Common.{◌≡◌, Some, None, sym, ap, subst, ◌∙◌}
use Rattle.std.specs.Prelude.{is_some}
use Rattle.basics.specs.Lists.{Bytes}
use Rattle.reed_solomon.specs.Code.{remainder_of}
use Rattle.nearest.specs.Near.{near_word, or_own, repaired_word}
use Rattle.header.specs.Header.{flag_bit}
use Rattle.parts.proofs.part_repair_word.Goals as goal

pub repair_word-requires : goal.repair_word-requires
repair_word-requires c =
    let own = sym c.copy_from_slice.ensures.after in
    (subst Bytes own c.requires.1, c.copy_from_slice-2.ensures.after ∙ c.requires.3 ∙ ap remainder_of own)

pub returns-in_default : goal.returns-in_default
unfolding repaired_word
returns-in_default c =
    let word = c.args.word.now in
    let none : near_word word ≡ None = ap near_word (sym c.copy_from_slice.ensures.after) ∙ sym c.repair_word.ensures ∙ c.in_default.is in
    record { value = sym (ap (λ o. flag_bit (is_some o)) none); bytes = sym (ap (λ o. or_own o word) none) }

pub returns : goal.returns
unfolding repaired_word
returns c =
    let word = c.args.word.now in
    let near : near_word word ≡ Some c.in-Some.repaired = ap near_word (sym c.copy_from_slice.ensures.after) ∙ sym c.repair_word.ensures ∙ c.in-Some.is in
    record { value = sym (ap (λ o. flag_bit (is_some o)) near); bytes = c.copy_from_slice-3.ensures.after ∙ sym (ap (λ o. or_own o word) near) }
