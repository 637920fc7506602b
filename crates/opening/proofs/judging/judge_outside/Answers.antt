-- Each return gives the first row that applies; the row of 2 tests two lengths.
use Rattle.std.proofs.Common.{sym, ap, ◌∙◌, take, le-leb, eq-eqb, ne_eqb}
use Rattle.std.proofs.lemmas.Bool.{lt-leb}
use Rattle.std.specs.Prelude.{◌≡◌, Bool, true, not, cond, List, ℕ, ◌≤◌, length}
use Rattle.basics.specs.Lists.{same}
use Rattle.basics.specs.Sizes.{area_size, frame_size}
use Rattle.refusals.specs.Numbers.{refusal_of}
use Rattle.refusals.specs.Table.{first_of, by}
use Rattle.scrambler.specs.Scrambler.{taps_allowed}
use Rattle.frame.specs.Frame.{preamble}
use Rattle.opening.specs.Opening.{open_table}
use Rattle.opening.proofs.judging.judge_outside.Goals as goal
use Rattle.opening.proofs.judging.judge_outside.Goals.{then-frame-ne-FRAME_SIZE-via-then-frame-ne-FRAME_SIZE}
use Rattle.opening.proofs.judging.judge_outside.Goals.{then-frame-ne-FRAME_SIZE-via-else-frame-ne-FRAME_SIZE+then-area-lt-AREA_SIZE}

-- where the taps are allowed and the lengths right, the row of 7 decides
third_row : (taps : ℕ) (frame area : List ℕ) {found : List ℕ} {as_found : Bool} → taps_allowed taps ≡ true → length frame ≡ frame_size
    → area_size ≤ length area → found ≡ preamble → as_found ≡ same (take 9 frame) found
    → first_of (take 3 (open_table taps frame area)) ≡ cond (not as_found) 7 0
unfolding first_of
third_row taps frame area allowed long room is e =
    simp (allowed, eq-eqb _ _ long, le-leb _ _ room, ap (same (take 9 frame)) (sym is) ∙ sym e)

pub returns-then-not-are_taps : goal.returns-then-not-are_taps
unfolding first_of by refusal_of
returns-then-not-are_taps c = simp (sym c.are_taps.ensures ∙ c.if-not-are_taps.true)

pub returns-then-frame-ne-FRAME_SIZE : goal.returns-then-frame-ne-FRAME_SIZE
unfolding first_of by refusal_of
returns-then-frame-ne-FRAME_SIZE c =
    let allowed = sym c.are_taps.ensures ∙ c.if-not-are_taps.false in
    elim c.then-frame-ne-FRAME_SIZE.branch [
      | then-frame-ne-FRAME_SIZE-via-then-frame-ne-FRAME_SIZE w ↦ simp (allowed, ne_eqb _ _ w.if-frame-ne-FRAME_SIZE.true)
      | then-frame-ne-FRAME_SIZE-via-else-frame-ne-FRAME_SIZE+then-area-lt-AREA_SIZE w ↦
          simp (allowed, eq-eqb _ _ w.if-frame-ne-FRAME_SIZE.false, lt-leb _ _ w.if-area-lt-AREA_SIZE.true)
    ]

pub returns-then-not-are_same : goal.returns-then-not-are_same
unfolding by refusal_of
returns-then-not-are_same c =
    simp (
      third_row c.args.taps c.args.frame.now c.args.area.now (sym c.are_taps.ensures ∙ c.if-not-are_taps.false)
          c.if-frame-ne-FRAME_SIZE.false c.if-area-lt-AREA_SIZE.false c.preamble.ensures c.are_same.ensures,
      c.if-not-are_same.true,
    )

pub returns : goal.returns
unfolding by
returns c =
    simp (
      third_row c.args.taps c.args.frame.now c.args.area.now (sym c.are_taps.ensures ∙ c.if-not-are_taps.false)
          c.if-frame-ne-FRAME_SIZE.false c.if-area-lt-AREA_SIZE.false c.preamble.ensures c.are_same.ensures,
      c.if-not-are_same.false,
    )
