-- The call: how the numbers that `repair` goes by are the table's, its count that of the body and at most 72; and that what is shown then is what was repaired.
use Rattle.std.specs.Prelude.{is_some, Result, Ok, Err}
use mathlib.Core.Path.{◌≡◌, refl, sym, ap, ap₂, ◌∙◌}
use mathlib.Core.Bool.{Bool, true, false, cond, ◌&&◌}
use mathlib.Core.List.{List, [], ◌∷◌}
use Prim.Native.Nat.{ℕ, ◌≤◌}
use native.Mathlib.Omega.{arith}
use borrow.Author.Tests.{eqb-true, leb-true, le-leb}
use lib.Dec.{eqb, leb, lit<}
use lib.ListN.{length, take, drop, length-take}
use Rattle.basics.proofs.Tests.{left_true, right_true}
use Rattle.refusals.specs.declared.Refusal.{Refusal}
use Rattle.refusals.specs.Numbers.{judged_by}
use Rattle.refusals.specs.Table.{Row, ◌unless◌, first_of, by}
use Rattle.refusals.proofs.Numbers.{answered, stands}
use Rattle.refusals.proofs.Table.{unless_passed, first_earlier, first_later}
use Rattle.lent.specs.Written.{written}
use Rattle.lent.proofs.Written.{written_front}
use Rattle.scrambler.specs.Scrambler.{taps_allowed, scrambled}
use Rattle.scrambler.proofs.Laws.{scrambled_length, scrambled_twice}
use Rattle.nearest.specs.Near.{near_header, differences}
use Rattle.repairing.specs.Body.{words_near, near_table, repaired_body}
use Rattle.repairing.specs.Repairing.{repaired, wrong_bytes, repair_table, repair_refusal, RepairOutcome, shown_bytes}
use Rattle.repairing.proofs.Differences.{differ_same}
use Rattle.repairing.proofs.Lengths.{body_length}
use Rattle.repairing.proofs.Scrambled.{differ_scrambled}

-- what is refused has a number
refused_some : (number : ℕ) (refusal : Refusal) → Err refusal ≡ judged_by number → number ≡ 0 → ⊥
unfolding by
refused_some number refusal e z = let passes : ◌≡◌ {A = Result (Unit {0}) Refusal} (Err refusal) (Ok tt) = e ∙ ap judged_by z in absurd (cc)

-- ---- the rows

module _ (taps : ℕ) (part scratch : List ℕ) where
  -- what is known where 1 and 2 are passed
  pub record Ready : Type 0 where
    pub allowed : taps_allowed taps ≡ true
    pub long : length part ≡ 2072
    pub room : 2072 ≤ length scratch

  passed_two : (rows : List Row) → first_of (1 unless taps_allowed taps ∷ 2 unless (eqb (length part) 2072 && leb 2072 (length scratch)) ∷ rows) ≡ 0
      → Ready × (first_of rows ≡ 0)
  passed_two rows e =
      let one = unless_passed 1 (taps_allowed taps) _ (lit< tt) e in
      let lengths = eqb (length part) 2072 in
      let room = leb 2072 (length scratch) in
      let two = unless_passed 2 (lengths && room) rows (lit< tt) one.1 in
      let ready : Ready = record {
        allowed = one.0;
        long = eqb-true (length part) 2072 (left_true lengths room two.0);
        room = leb-true 2072 (length scratch) (right_true lengths room two.0);
      } in
      (ready, two.1)

  pub repair_passed : repair_refusal taps part scratch ≡ 0 → Ready × (first_of (near_table (scrambled taps part)) ≡ 0)
  unfolding repair_refusal
  repair_passed e = passed_two (near_table (scrambled taps part)) e

  pub outer_passed : first_of (take 2 (repair_table taps part scratch)) ≡ 0 → Ready
  outer_passed e = (passed_two [] e).0

  -- what is refused by the two is refused by all
  pub outer_judged : (refusal : Refusal) → Err refusal ≡ judged_by (first_of (take 2 (repair_table taps part scratch)))
      → Err refusal ≡ judged_by (repair_refusal taps part scratch)
  unfolding repair_refusal
  outer_judged refusal e =
      e ∙ sym (ap judged_by (first_earlier (take 2 (repair_table taps part scratch)) (near_table (scrambled taps part)) (refused_some _ refusal e)))

  -- 8, 12 or none, of the body
  module _ (none : first_of (take 2 (repair_table taps part scratch)) ≡ 0) (body : List ℕ) (unscrambled : body ≡ scrambled taps part) where
    pub inner_is : (header words : Bool) → header ≡ is_some (near_header (take 32 body)) → words ≡ words_near (drop 32 body)
        → first_of (8 unless header ∷ 12 unless words ∷ []) ≡ repair_refusal taps part scratch
    unfolding repair_refusal
    inner_is header words h w =
        ap₂ (λ (x y : Bool). first_of (8 unless x ∷ 12 unless y ∷ [])) h w ∙ ap (λ (l : List ℕ). first_of (near_table l)) unscrambled
        ∙ sym (first_later (take 2 (repair_table taps part scratch)) (near_table (scrambled taps part)) refl none)

-- ---- the count

module _ (taps : ℕ) (part : List ℕ) (long : length part ≡ 2072) (body : List ℕ) (unscrambled : body ≡ scrambled taps part) where
  pub count_is : differences body (repaired_body body) ≡ wrong_bytes taps part
  unfolding wrong_bytes repaired
  count_is =
      let size : length body ≡ 2072 = ap length unscrambled ∙ scrambled_length taps part ∙ long in
      sym (differ_scrambled taps body (repaired_body body) (size ∙ sym (body_length body size)))
      ∙ ap₂ differences (ap (scrambled taps) unscrambled ∙ scrambled_twice taps part)
      (ap (λ (l : List ℕ). scrambled taps (repaired_body l)) unscrambled)

  pub repaired_is : (after : List ℕ) → after ≡ scrambled taps (repaired_body body) → after ≡ repaired taps part
  unfolding repaired
  repaired_is after e = e ∙ ap (λ (l : List ℕ). scrambled taps (repaired_body l)) unscrambled

pub repaired_part_length : (taps : ℕ) (part : List ℕ) → length part ≡ 2072 → length (repaired taps part) ≡ 2072
unfolding repaired
repaired_part_length taps part long =
    scrambled_length taps (repaired_body (scrambled taps part)) ∙ body_length (scrambled taps part) (scrambled_length taps part ∙ long)

-- ---- after a repair that is not refused, what is shown is what was repaired

module _ (taps : ℕ) (part before : List ℕ) (r : Result ℕ Refusal) (after : List ℕ) (outcome : RepairOutcome taps part before r after)
    (none : repair_refusal taps part before ≡ 0) where
  abbrev wrong : ℕ
  wrong = wrong_bytes taps part

  abbrev whole : List ℕ
  whole = repaired taps part

  ready : Ready taps part before
  ready = (repair_passed taps part before none).0

  whole_length : length whole ≡ 2072
  whole_length = repaired_part_length taps part ready.long

  pub answer_is : r ≡ Ok wrong
  answer_is = outcome.answer ∙ sym (answered (repair_refusal taps part before) wrong wrong none refl)

  scratch_is : after ≡ cond (eqb wrong 0) before (written before 0 whole)
  scratch_is = outcome.bytes ∙ sym (stands (repair_refusal taps part before) _ before _ none refl)

  shown_by : (t : Bool) → eqb wrong 0 ≡ t → cond (eqb wrong 0) part (cond (leb 2072 (length after)) (take 2072 after) []) ≡ whole
  unfolding wrong_bytes
  shown_by true t =
      ap (λ (b : Bool). cond b part (cond (leb 2072 (length after)) (take 2072 after) [])) t
      ∙ differ_same part whole (ready.long ∙ sym whole_length) (eqb-true wrong 0 t)
  shown_by false t =
      let front : take 2072 after ≡ whole =
      ap (take 2072) (scratch_is ∙ ap (λ (b : Bool). cond b before (written before 0 whole)) t) ∙ written_front before whole 2072 whole_length in
      let room : 2072 ≤ length after = omega (arith, ap length front, whole_length, length-take 2072 after) in
      ap₂ (λ (a b : Bool). cond a part (cond b (take 2072 after) [])) t (le-leb 2072 (length after) room) ∙ front

  pub repaired_shown : shown_bytes r part after ≡ whole
  unfolding shown_bytes
  repaired_shown = ap (λ (x : Result ℕ Refusal). shown_bytes x part after) answer_is ∙ shown_by (eqb wrong 0) refl
