-- The call that repairs the 2,072 bytes after a preamble, scrambled as they arrive (02, M-101): its refusals 1, 2, 8 and 12, its answer, what it leaves in the
-- lent scratch, and the bytes that are then handed back, with the place where they stand.
use Rattle.std.specs.Prelude.{◌≡◌, cond, ◌&&◌, List, [], ◌∷◌, ℕ, eqb, leb, length, take, Result, Ok, Err}
use Rattle.std.specs.Borrow.{Bor}
use Rattle.refusals.specs.Numbers.{answer_by}
use Rattle.refusals.specs.Table.{Row, ◌unless◌, first_of, by}
use Rattle.refusals.specs.declared.Refusal.{Refusal}
use Rattle.lent.specs.Written.{written}
use Rattle.scrambler.specs.Scrambler.{taps_allowed, scrambled}
use Rattle.nearest.specs.Near.{differences}
use Rattle.repairing.specs.Body.{near_table, repaired_body}

-- the part as repaired, scrambled as it came; and how many bytes were wrong: the places where the two differ
unfoldable pub repaired : ℕ → List ℕ → List ℕ
repaired taps part = scrambled taps (repaired_body (scrambled taps part))

unfoldable pub wrong_bytes : ℕ → List ℕ → ℕ
wrong_bytes taps part = differences part (repaired taps part)

-- 1: taps at or above 2^25, or tap 0 clear. 2: the part is not 2,072 long, or the scratch is shorter. 8 and 12: of the part, unscrambled.
abbrev pub repair_table : ℕ → List ℕ → List ℕ → List Row
repair_table taps part scratch =
    1 unless taps_allowed taps
    ∷ 2 unless (eqb (length part) 2072 && leb 2072 (length scratch))
    ∷ near_table (scrambled taps part)

unfoldable pub repair_refusal : ℕ → List ℕ → List ℕ → ℕ
repair_refusal taps part scratch = first_of (repair_table taps part scratch)

-- the answer of `repair`, and the scratch after it: as it was where no byte was wrong and where the call is refused
pub record RepairOutcome (taps : ℕ) (part before : List ℕ) (r : Result ℕ Refusal) (after : List ℕ) : Type 0 where
  pub answer : r ≡ answer_by (repair_refusal taps part before) (wrong_bytes taps part)
  pub bytes : after
      ≡ by (repair_refusal taps part before) (cond (eqb (wrong_bytes taps part) 0) before (written before 0 (repaired taps part))) before

-- the bytes that `shown` hands back, and where they stand: the part's own where the count is 0, otherwise the scratch's first 2,072; none at a refusal
unfoldable pub shown_bytes : {E : Type 0} → Result ℕ E → List ℕ → List ℕ → List ℕ
shown_bytes (Ok count) part scratch = cond (eqb count 0) part (cond (leb 2072 (length scratch)) (take 2072 scratch) [])
shown_bytes (Err refusal) part scratch = []

unfoldable pub shown_place : {E : Type 0} → Result ℕ E → Bor (List ℕ) → Bor (List ℕ) → ℕ × ℕ
shown_place (Ok count) part scratch = cond (eqb count 0) part.ref_ptr scratch.ref_ptr
shown_place (Err refusal) part scratch = part.ref_ptr
