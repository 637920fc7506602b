-- A word of which division leaves nothing is near itself (`clean`), so that the payload stays (`with_own`); another is gathered, searched and written back.
use mathlib.Core.Path.{◌≡◌, sym, ap, ◌∙◌, subst}
use mathlib.Core.List.{List}
use Rattle.std.specs.Prelude.{Some, None, is_some}
use Prim.Native.Nat.{ℕ}
use lib.ListN.{length}
use Rattle.basics.specs.Lists.{zeros, Bytes}
use Rattle.basics.proofs.Lists.{bytes_each}
use Rattle.basics.proofs.Tests.{same_true}
use Rattle.reed_solomon.specs.Code.{remainder_of}
use Rattle.reed_solomon.specs.Payload.{every_eighth}
use Rattle.reed_solomon.specs.Rows.{spread}
use Rattle.reed_solomon.proofs.Interleaved.{eighth_length, eighth_bytes}
use Rattle.reed_solomon.proofs.Remainders.{word_remainder_length}
use Rattle.nearest.specs.Near.{near_word, or_own, repaired_word}
use Rattle.nearest.proofs.Nearest.{clean}
use Rattle.repairing.specs.Words.{with_word}
use Rattle.repairing.proofs.Words.{with_own}
use borrow.Author.Rules.{rules}
use Rattle.repairing.proofs.body.repair_word.Goals as goal

-- what is known of a word of which division leaves nothing
near-own : (payload : List ℕ) (k : ℕ) (remainder : List ℕ) → Bytes payload → remainder ≡ remainder_of (every_eighth 255 k payload) → remainder ≡ zeros (length remainder)
    → near_word (every_eighth 255 k payload) ≡ Some (every_eighth 255 k payload)
near-own payload k remainder bytes is none =
    clean (every_eighth 255 k payload) (eighth_length 255 k payload) (eighth_bytes 255 k payload bytes) (sym is ∙ none ∙ ap (λ l. zeros (length l)) is ∙ ap zeros (word_remainder_length payload k))

pub returns-then-are_zeros : goal.returns-then-are_zeros
unfolding repaired_word
returns-then-are_zeros c =
    let given = c in
    let payload = given.args.payload.now in
    let k = given.args.k in
    let own = every_eighth 255 k payload in
    let bytes = bytes_each payload (λ i. search rules) in
    let near = near-own payload k given.args.remainder bytes given.requires.2 (same_true _ _ (sym c.are_zeros.ensures ∙ c.if-are_zeros.true)) in
    (sym (ap is_some near), sym (with_own k payload given.requires.0 given.requires.1 (ap (λ o. or_own o own) near)))

pub repair_word-requires : goal.repair_word-requires
repair_word-requires c =
    let payload = c.args.payload.now in
    let bytes = bytes_each payload (λ i. search rules) in (
      subst Bytes (sym c.gathered-own.ensures) (eighth_bytes 255 c.args.k payload bytes),
      c.requires.2 ∙ ap remainder_of (sym c.gathered-own.ensures),
    )

pub returns-in_default : goal.returns-in_default
unfolding repaired_word
returns-in_default c =
    let payload = c.args.payload.now in
    let k = c.args.k in
    let own = every_eighth 255 k payload in
    let none : near_word own ≡ None = ap near_word (sym c.gathered-own.ensures) ∙ sym c.repair_word.ensures ∙ c.in_default.is in
    (sym (ap is_some none), sym (with_own k payload c.requires.0 c.requires.1 (ap (λ o. or_own o own) none)))

pub returns : goal.returns
unfolding with_word repaired_word
returns c =
    let payload = c.args.payload.now in
    let k = c.args.k in
    let own = every_eighth 255 k payload in
    let near : near_word own ≡ Some c.in-Some.word = ap near_word (sym c.gathered-own.ensures) ∙ sym c.repair_word.ensures ∙ c.in-Some.is in
    (sym (ap is_some near), c.write_word.ensures ∙ ap (λ w. spread w k payload) (sym (ap (λ o. or_own o own) near)))
