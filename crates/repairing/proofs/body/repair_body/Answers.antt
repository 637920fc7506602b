-- A body of which division leaves nothing is coded (`clean_coded`), so it is near itself and repaired to itself; another is repaired.
use native.Mathlib.Omega.{arith}
use mathlib.Core.Path.{◌≡◌, sym, ap, ◌∙◌}
use mathlib.Core.Bool.{true}
use mathlib.Core.List.{List}
use Prim.Native.Nat.{ℕ, ◌-◌}
use lib.ListN.{length, take, drop}
use lib.Seq.{length-take-le}
use Rattle.basics.specs.Lists.{zeros, entries}
use Rattle.basics.proofs.Lists.{cut_rest_lem, bytes_each, entries_length}
use Rattle.basics.proofs.Tests.{same_true}
use Rattle.reed_solomon.specs.Rows.{remainder_byte}
use Rattle.reed_solomon.proofs.Remainders.{remainder_length}
use Rattle.nearest.specs.Near.{differences}
use Rattle.repairing.specs.Words.{BodyOutcome}
use Rattle.nearest.proofs.Nearness.{differences_self}
use Rattle.repairing.specs.NearPart.{Coded}
use Rattle.repairing.proofs.Coded.{near_itself, sent_header_near, sent_words_near, sent_body}
use Rattle.repairing.proofs.Clean.{clean_coded}
use borrow.Author.Rules.{rules}
use Rattle.repairing.proofs.body.repair_body.Goals as goal

-- a coded body is answered for as it stands
unharmed : (body : List ℕ) → Coded body → BodyOutcome body (record { header = true; words = true; wrong = 0 }) body
unharmed body coded =
    let itself = near_itself body in
    let same = sent_body body body coded.long coded itself in
    record {
      header = sym (sent_header_near body body coded.long coded itself);
      words = sym (sent_words_near body body coded.long coded itself);
      count = sym (ap (differences body) same ∙ differences_self body);
      bytes = sym same;
    }

payload_is : (body : List ℕ) → length body ≡ 2072 → take 2040 (drop 32 body) ≡ drop 32 body
payload_is body long = ap (λ n. take (n - 32) (drop 32 body)) (sym long) ∙ cut_rest_lem body 32

pub returns-then-are_zeros-2 : goal.returns-then-are_zeros-2
returns-then-are_zeros-2 c =
    let body = c.args.body.now in
    let long : length body ≡ 2072 = search rules in
    let bytes = bytes_each body (λ i. search rules) in
    let header = c.remainder_of-header.ensures in
    let words = c.remainders-words.ensures ∙ ap (λ l. entries (remainder_byte l) 0 128) (payload_is body long) in
    let none-of-header = sym header ∙ same_true _ _ (sym c.are_zeros.ensures ∙ c.if-are_zeros.true) in
    let none-of-words = sym words ∙ same_true _ _ (sym c.are_zeros-then-are_zeros.ensures ∙ c.if-are_zeros-2.true) in
    let size = length-take-le 32 body (omega (arith, long)) in
    unharmed body (clean_coded body bytes long
    (none-of-header ∙ ap zeros (ap length header ∙ remainder_length (take 32 body) 16 (sym size) (omega (arith, size))))
    (none-of-words ∙ ap zeros (ap length words ∙ entries_length (remainder_byte (drop 32 body)) 0 128)))

pub repair_damaged-requires : goal.repair_damaged-requires
repair_damaged-requires c =
    (c.remainder_of-header.ensures, c.remainders-words.ensures ∙ ap (λ l. entries (remainder_byte l) 0 128) (payload_is c.args.body.now (search rules)))
