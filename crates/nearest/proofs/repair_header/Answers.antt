-- Behind its zeros the header is a word; the codeword near that is the header's where it changes none of them (`header_found`), and otherwise none is
-- (`header_changed`, `header_missed`).
use Rattle.std.proofs.Common.{◌≡◌, ℕ, Bool, true, false, List, ◌≤◌, Some, None, length, take, sym, ap, ◌∙◌, subst, rules, arith}
use Rattle.std.proofs.Math.Seq.{length-take-le}
use mathlib.Core.Bool.{false≢true}
use Rattle.basics.specs.Lists.{Bytes, zeros, same}
use Rattle.basics.proofs.Tests.{same_self, same_true}
use Rattle.reed_solomon.specs.Code.{remainder_of, lengthened}
use Rattle.nearest.specs.Near.{near_word}
use Rattle.nearest.proofs.ByWord.{header_changed, header_found, header_missed}
use Rattle.nearest.proofs.Nearness.{lengthened_bytes}
use Rattle.nearest.proofs.repair_header.Goals as goal

pub repair_word-requires : goal.repair_word-requires
repair_word-requires c =
    let same = sym c.lengthened_of.ensures in
    (subst Bytes same (lengthened_bytes c.args.own (search rules) c.requires.0), c.requires.1 ∙ ap (λ w. remainder_of w) same)

pub returns-in_err-word : goal.returns-in_err-word
returns-in_err-word c =
    let near : near_word (lengthened c.args.own) ≡ None = search rules in
    c.from_residual.ensures ∙ sym (header_missed c.args.own (search rules) near)

front_long : (n : ℕ) (word : List ℕ) → n ≤ 255 → length word ≡ 255 → length (take n word) ≡ n
front_long n word inside long = length-take-le n word (omega (arith, long, inside))

-- the test of the bytes that are not sent, with their count
tested : (word : List ℕ) (test : Bool) → length word ≡ 255 → same (take 223 word) (zeros (length (take 223 word))) ≡ test → same (take 223 word) (zeros 223) ≡ test
tested word test long e = ap (λ n. same (take 223 word) (zeros n)) (sym (front_long 223 word (omega arith) long)) ∙ e

pub slice_bounds-are_zeros-end : goal.slice_bounds-are_zeros-end
slice_bounds-are_zeros-end c = sym (front_long _ c.in_ok-word.word (omega arith) (search rules))

pub returns-then-not-are_zeros : goal.returns-then-not-are_zeros
returns-then-not-are_zeros c =
    let word = c.in_ok-word.word in
    let near : near_word (lengthened c.args.own) ≡ Some word = search rules in
    let other = tested word false (search rules) (sym c.are_zeros.ensures ∙ c.if-not-are_zeros.true) in
    sym (header_changed c.args.own (search rules) word near (λ z. false≢true (sym other ∙ ap (λ l. same l (zeros 223)) z ∙ same_self (zeros 223))))

pub returns : goal.returns
returns c =
    let word = c.in_ok-word.word in
    let near : near_word (lengthened c.args.own) ≡ Some word = search rules in
    let none = same_true (take 223 word) (zeros 223) (tested word true (search rules) (sym c.are_zeros.ensures ∙ c.if-not-are_zeros.false)) in
    ap Some c.sent_of.ensures ∙ sym (header_found c.args.own (search rules) word near none)
