-- What is known of a frame that passes the tables of its refusals; how the two numbers that `open` goes by are the table's; how long what was unscrambled is.
use mathlib.Core.Path.{◌≡◌, refl, sym, ap, ap₂, ◌∙◌}
use mathlib.Core.List.{List, [], ◌∷◌, ◌++◌}
use mathlib.Core.Bool.{Bool, true, ◌&&◌}
use Prim.Native.Nat.{ℕ, ◌-◌, ◌≤◌}
use borrow.Author.Tests.{eqb-true, leb-true, eq-eqb, le-leb}
use lib.Dec.{eqb, leb, lit<}
use lib.ListN.{length, take, drop, length-drop}
use Rattle.std.specs.Prelude.{Ok, Err, is_some}
use Rattle.basics.specs.Lists.{same}
use Rattle.basics.proofs.Tests.{left_true, right_true, same_true, same_self}
use Rattle.refusals.specs.declared.Refusal.{Refusal}
use Rattle.refusals.specs.Numbers.{answer_by, judged_by}
use Rattle.refusals.specs.Table.{Row, ◌unless◌, first_of}
use Rattle.refusals.proofs.Numbers.{refused, answered}
use Rattle.refusals.proofs.Table.{unless_passed, first_earlier, first_later, both_passed}
use Rattle.scrambler.specs.Scrambler.{taps_allowed}
use Rattle.scrambler.proofs.Laws.{scrambled_length}
use Rattle.header.specs.declared.Header.{Header}
use Rattle.header_reading.specs.Reading.{header_of, header_table, sum_holds, rules_hold}
use Rattle.frame.specs.Frame.{preamble}
use Rattle.nearest.specs.Near.{near_header}
use Rattle.repairing.specs.Body.{words_near, repaired_body}
use Rattle.repairing.specs.Words.{BodyOutcome}
use Rattle.repairing.specs.declared.body.BodyAnswer.{BodyAnswer}
use Rattle.repairing.proofs.Laws.{count_is}
use Rattle.opening.specs.declared.Opened.{Opened}
use Rattle.opening.specs.Opening.{unscrambled, header_part, area_part, area_checked, repaired_table, body_table, frame_table, open_table, open_refusal}
use Rattle.opening.specs.Opening.{opened_header, opened_area, opened_wrong}

-- what is answered beside the area
abbrev pub opened : Header → ℕ → Opened
opened header wrong = record { header = header; repaired = wrong }

-- what rows refuse is refused by these and others behind them
refused_early : {A B : Type 0} (refusal : Refusal) (judged : A) (done : B) (a b : List Row) → Err refusal ≡ answer_by (first_of a) judged
    → Err refusal ≡ answer_by (first_of (a ++ b)) done
refused_early refusal judged done a b e =
    let ne : first_of a ≡ 0 → ⊥ = λ z. no_answer (e ∙ sym (answered (first_of a) judged judged z refl)) in
    refused (first_of (a ++ b)) refusal judged done (e ∙ ap (λ (n : ℕ). answer_by n judged) (sym (first_earlier a b ne)))
  where
    no_answer : Err refusal ≡ Ok judged → ⊥
    no_answer same = cc

pub unscrambled_length : (taps : ℕ) (frame : List ℕ) → length frame ≡ 2081 → length (unscrambled taps frame) ≡ 2072
unfolding unscrambled
unscrambled_length taps frame e = scrambled_length taps (drop 9 frame) ∙ length-drop 9 frame ∙ ap (λ (n : ℕ). n - 9) e

-- where the header's rows are passed each was
pub header_passed : (part body : List ℕ) → part ≡ header_part body → first_of (header_table part) ≡ 0
    → (sum_holds (header_part body) ≡ true) × (rules_hold (header_part body) ≡ true)
header_passed part body e none =
    let nine = unless_passed 9 (sum_holds (header_part body)) _ (lit< tt) (ap (λ (l : List ℕ). first_of (header_table l)) (sym e) ∙ none) in
    (nine.0, (unless_passed 11 (rules_hold (header_part body)) [] (lit< tt) nine.1).0)

-- ---- the rows from 7 on

-- what is known of a frame that none of them refuses
pub record Passed (taps : ℕ) (frame : List ℕ) : Type 0 where
  pub begins : take 9 frame ≡ preamble
  pub header_near : is_some (near_header (take 32 (unscrambled taps frame))) ≡ true
  pub header_read : first_of (header_table (header_part (repaired_body (unscrambled taps frame)))) ≡ 0
  pub each_near : words_near (drop 32 (unscrambled taps frame)) ≡ true
  pub checked : area_checked (repaired_body (unscrambled taps frame)) ≡ true

module _ (words : Bool) (body : List ℕ) where
  abbrev payload_rows : List Row
  payload_rows = 12 unless words ∷ 13 unless area_checked body ∷ []

  pub header_refused : (refusal : Refusal) → Err refusal ≡ judged_by (first_of (header_table (header_part body)))
      → Err refusal ≡ judged_by (first_of (repaired_table true words body))
  unfolding first_of
  header_refused refusal e = refused_early refusal tt tt (header_table (header_part body)) payload_rows e

  pub payload_then : first_of (header_table (header_part body)) ≡ 0 → first_of (repaired_table true words body) ≡ first_of payload_rows
  unfolding first_of
  payload_then z = first_later (header_table (header_part body)) payload_rows refl z

module _ (taps : ℕ) (frame : List ℕ) where
  abbrev body : List ℕ
  body = unscrambled taps frame

  abbrev after : List ℕ
  after = repaired_body body

  pub frame_passed : first_of (frame_table taps frame) ≡ 0 → Passed taps frame
  frame_passed e =
      let seven = unless_passed 7 (same (take 9 frame) preamble) (body_table body) (lit< tt) e in
      let eight = unless_passed 8 (is_some (near_header (take 32 body))) _ (lit< tt) seven.1 in
      let header = both_passed (header_table (header_part after)) (payload_rows (words_near (drop 32 body)) after) refl eight.1 in
      let twelve = unless_passed 12 (words_near (drop 32 body)) _ (lit< tt) header.1 in
      record {
        begins = same_true (take 9 frame) preamble seven.0;
        header_near = eight.0;
        header_read = header.0;
        each_near = twelve.0;
        checked = (unless_passed 13 (area_checked after) [] (lit< tt) twelve.1).0;
      }

  pub frame_passes : Passed taps frame → first_of (frame_table taps frame) ≡ 0
  unfolding first_of
  frame_passes p =
      rw (ap (λ (l : List ℕ). same l preamble) p.begins ∙ same_self preamble, p.header_near)
      (payload_then (words_near (drop 32 body)) after p.header_read ∙ rw (p.each_near, p.checked))

-- ---- the rows 1 and 2, before them

module _ (taps : ℕ) (frame area : List ℕ) where
  -- what is known where these two are passed
  pub record Ready : Type 0 where
    pub allowed : taps_allowed taps ≡ true
    pub long : length frame ≡ 2081
    pub room : 1908 ≤ length area

  passed_two : (rows : List Row) → first_of (1 unless taps_allowed taps ∷ 2 unless (eqb (length frame) 2081 && leb 1908 (length area)) ∷ rows) ≡ 0
      → Ready × (first_of rows ≡ 0)
  passed_two rows e =
      let one = unless_passed 1 (taps_allowed taps) _ (lit< tt) e in
      let lengths = eqb (length frame) 2081 in
      let room = leb 1908 (length area) in
      let two = unless_passed 2 (lengths && room) rows (lit< tt) one.1 in
      let ready : Ready = record {
        allowed = one.0;
        long = eqb-true (length frame) 2081 (left_true lengths room two.0);
        room = leb-true 1908 (length area) (right_true lengths room two.0);
      } in
      (ready, two.1)

  pub open_passed : open_refusal taps frame area ≡ 0 → Ready × (first_of (frame_table taps frame) ≡ 0)
  unfolding open_refusal
  open_passed e = passed_two (frame_table taps frame) e

  -- where these two are passed the others decide
  pub open_by_frame : Ready → open_refusal taps frame area ≡ first_of (frame_table taps frame)
  unfolding open_refusal first_of
  open_by_frame r = rw (r.allowed, eq-eqb (length frame) 2081 r.long, le-leb 1908 (length area) r.room)

  -- ---- the two judges that `open` goes by: of the first three rows, and of those behind them

  pub outside_refused : (refusal : Refusal) → Err refusal ≡ judged_by (first_of (take 3 (open_table taps frame area)))
      → Err refusal ≡ judged_by (open_refusal taps frame area)
  unfolding open_refusal
  outside_refused refusal e = refused_early refusal tt tt (take 3 (open_table taps frame area)) (body_table (unscrambled taps frame)) e

  -- what is known where the first passes: of what was lent, ..
  module _ (none : first_of (take 3 (open_table taps frame area)) ≡ 0) where
    pub outside_passed : Ready
    outside_passed = (passed_two (take 1 (frame_table taps frame)) none).0

    -- .. and of the body that is unscrambled and repaired: the rows behind, what they are asked of, and how many bytes were wrong
    module _ {arrived body : List ℕ} {near : BodyAnswer} (came : arrived ≡ unscrambled taps frame) (repaired : BodyOutcome arrived near body) where
      pub inside_number : first_of (repaired_table near.header near.words body) ≡ open_refusal taps frame area
      unfolding open_refusal
      inside_number =
          rw (repaired.header, repaired.words, repaired.bytes, came)
          (sym (first_later (take 3 (open_table taps frame area)) (body_table (unscrambled taps frame)) refl none))

      pub inside_area : area_part body ≡ opened_area taps frame
      unfolding opened_area
      inside_area = ap area_part (repaired.bytes ∙ ap repaired_body came)

      pub inside_opened : {header : Header} → header ≡ header_of (header_part body)
          → opened header near.wrong ≡ opened (opened_header taps frame) (opened_wrong taps frame)
      unfolding opened_header unscrambled
      inside_opened e =
          let size = length-drop 9 frame ∙ ap (λ (n : ℕ). n - 9) outside_passed.long in
          ap₂ opened (e ∙ ap (λ (l : List ℕ). header_of (header_part l)) (repaired.bytes ∙ ap repaired_body came))
          (repaired.count ∙ count_is taps (drop 9 frame) size arrived came)
