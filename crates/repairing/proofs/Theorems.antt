-- The two theorems of the call: exactly a part that is near a coded one is repaired, and to that one: it is what is shown, and the count is of the places where
-- the two differ.
use Rattle.std.specs.Prelude.{is_some}
use mathlib.Core.Path.{◌≡◌, sym, ap, ◌∙◌, subst}
use mathlib.Core.Bool.{true}
use mathlib.Core.List.{List, []}
use Prim.Native.Nat.{ℕ}
use borrow.Author.Tests.{eq-eqb, le-leb}
use lib.Dec.{lit<}
use lib.ListN.{length, take, drop}
use Rattle.refusals.specs.Table.{first_of}
use Rattle.refusals.proofs.Table.{unless_passed}
use Rattle.scrambler.specs.Scrambler.{scrambled}
use Rattle.scrambler.proofs.Laws.{scrambled_length, scrambled_twice}
use Rattle.nearest.specs.Near.{near_header, differences}
use Rattle.repairing.specs.Body.{words_near, near_table, repaired_body}
use Rattle.repairing.specs.Repairing.{repaired, wrong_bytes, repair_refusal, RepairOutcome, shown_bytes}
use Rattle.refusals.specs.declared.Refusal.{Refusal}
use Rattle.std.specs.Prelude.{Result, Ok}
use Rattle.repairing.specs.NearPart.{Coded, NearPart}
use Rattle.repairing.proofs.Coded.{near_itself, repaired_near, repaired_coded, sent_header_near, sent_words_near, sent_body}
use Rattle.repairing.proofs.Scrambled.{scrambled_near}
use Rattle.nearest.proofs.Nearness.{differences_self}
use Rattle.repairing.proofs.Differences.{differ_same}
use Rattle.repairing.proofs.Laws.{Ready, repair_passed, repaired_part_length, answer_is, repaired_shown}

-- ---- what is repaired is near a coded part

module _ (taps : ℕ) (part scratch : List ℕ) (none : repair_refusal taps part scratch ≡ 0) where
  abbrev body : List ℕ
  body = scrambled taps part

  passed : Ready taps part scratch × (first_of (near_table body) ≡ 0)
  passed = repair_passed taps part scratch none

  body_length : length body ≡ 2072
  body_length = scrambled_length taps part ∙ passed.0.long

  header_near : is_some (near_header (take 32 body)) ≡ true
  header_near = (unless_passed 8 (is_some (near_header (take 32 body))) _ (lit< tt) passed.1).0

  each_near : words_near (drop 32 body) ≡ true
  each_near =
      (unless_passed 12 (words_near (drop 32 body)) [] (lit< tt) (unless_passed 8 (is_some (near_header (take 32 body))) _ (lit< tt) passed.1).1).0

  pub repaired_is_coded : Coded (scrambled taps (repaired taps part))
  unfolding repaired
  repaired_is_coded = subst Coded (sym (scrambled_twice taps (repaired_body body))) (repaired_coded body body_length header_near each_near)

  pub repaired_is_near : NearPart part (repaired taps part)
  unfolding repaired
  repaired_is_near =
      subst (λ (l : List ℕ). NearPart l (scrambled taps (repaired_body body))) (scrambled_twice taps part)
      (scrambled_near taps body (repaired_body body) (body_length ∙ sym (repaired_coded body body_length header_near each_near).long) body_length
      (repaired_near body body_length))

-- ---- a part near a coded one is repaired to it

module _ (taps : ℕ) (part sent scratch : List ℕ) (ready : Ready taps part scratch) (size : length sent ≡ 2072) (coded : Coded (scrambled taps sent))
    (near : NearPart part sent) where
  abbrev arrived : List ℕ
  arrived = scrambled taps part

  arrived_length : length arrived ≡ 2072
  arrived_length = scrambled_length taps part ∙ ready.long

  arrived_near : NearPart arrived (scrambled taps sent)
  arrived_near = scrambled_near taps part sent (ready.long ∙ sym size) ready.long near

  pub near_repaired : repair_refusal taps part scratch ≡ 0
  unfolding repair_refusal first_of
  near_repaired =
      rw (
        ready.allowed,
        eq-eqb (length part) 2072 ready.long,
        le-leb 2072 (length scratch) ready.room,
        sent_header_near arrived (scrambled taps sent) arrived_length coded arrived_near,
        sent_words_near arrived (scrambled taps sent) arrived_length coded arrived_near,
      )

  repaired_sent : repaired taps part ≡ sent
  unfolding repaired
  repaired_sent = ap (scrambled taps) (sent_body arrived (scrambled taps sent) arrived_length coded arrived_near) ∙ scrambled_twice taps sent

  pub sent_shown : (r : Result ℕ Refusal) (after : List ℕ) → RepairOutcome taps part scratch r after
      → (r ≡ Ok (differences part sent)) × (shown_bytes r part after ≡ sent)
  unfolding wrong_bytes
  sent_shown r after outcome = (
    answer_is taps part scratch r after outcome near_repaired ∙ ap (λ (l : List ℕ). Ok (differences part l)) repaired_sent,
    repaired_shown taps part scratch r after outcome near_repaired ∙ repaired_sent,
  )

-- ---- the count is 0 exactly where the part is coded as it came

pub none_wrong_coded : (taps : ℕ) (part scratch : List ℕ) → repair_refusal taps part scratch ≡ 0 → wrong_bytes taps part ≡ 0 → Coded (scrambled taps part)
unfolding wrong_bytes
none_wrong_coded taps part scratch none zero =
    let long = (repair_passed taps part scratch none).0.long in
    subst (λ (l : List ℕ). Coded (scrambled taps l)) (sym (differ_same part (repaired taps part) (long ∙ sym (repaired_part_length taps part long)) zero))
    (repaired_is_coded taps part scratch none)

pub coded_none_wrong : (taps : ℕ) (part scratch : List ℕ) → Ready taps part scratch → Coded (scrambled taps part) → wrong_bytes taps part ≡ 0
unfolding wrong_bytes
coded_none_wrong taps part scratch ready coded =
    ap (differences part) (repaired_sent taps part part scratch ready ready.long coded (near_itself part)) ∙ differences_self part
