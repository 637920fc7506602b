-- A word that division leaves nothing of is near itself (`clean`); for any other the check of what the search made of it decides (`tested_found`,
-- `tested_none`).
use Rattle.std.proofs.Common.{◌≡◌, Bool, true, false, ℕ, List, length, sym, ap, ◌∙◌, rules}
use Rattle.basics.specs.Lists.{zeros, same}
use Rattle.basics.proofs.Tests.{same_true}
use Rattle.nearest.proofs.Check.{tested_found, tested_none}
use Rattle.nearest.proofs.Nearest.{clean}
use Rattle.nearest.proofs.repair_word.Goals as goal

sixteen : (l : List ℕ) (test : Bool) → length l ≡ 16 → same l (zeros (length l)) ≡ test → same l (zeros 16) ≡ test
sixteen l test long e = ap (λ n. same l (zeros n)) (sym long) ∙ e

pub returns-then-are_zeros : goal.returns-then-are_zeros
returns-then-are_zeros c =
    let own = c.args.own in
    let none = same_true c.args.remainder (zeros 16) (sixteen c.args.remainder true (search rules) (sym c.are_zeros.ensures ∙ c.if-are_zeros.true)) in
    sym (clean own (search rules) c.requires.0 (sym c.requires.1 ∙ none))

pub returns-then-are_zeros-2 : goal.returns-then-are_zeros-2
returns-then-are_zeros-2 c =
    let searched = c.search-searched in
    let none = sixteen searched.result.sums true (search rules) (sym c.are_zeros-2.ensures ∙ c.if-are_zeros-2.true) in
    sym (tested_found c.args.own searched.result.word searched.result.sums (search rules) c.requires.0 searched.ensures.0 searched.ensures.1 none)

pub returns : goal.returns
returns c =
    let searched = c.search-searched in
    let some = sixteen searched.result.sums false (search rules) (sym c.are_zeros-2.ensures ∙ c.if-are_zeros-2.false) in
    sym (tested_none c.args.own searched.result.word searched.result.sums (search rules) c.requires.0 searched.ensures.0 searched.ensures.1 some)
