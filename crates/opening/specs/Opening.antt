-- Opening a frame (01, "Refusal numbers"; 02, M-106 and M-101): the refusals 1, 2, 7 to 9 and 11 to 13, and the header and the area of a frame that is
-- accepted, as they are where up to 8 wrong bytes of the coded header and of each payload word are repaired.
use Rattle.std.specs.Prelude.{◌≡◌, Bool, ◌&&◌, List, [], ◌∷◌, ◌++◌, ℕ, ◌+◌, eqb, leb, length, take, drop, Result, is_some}
use Rattle.basics.specs.Lists.{same}
use Rattle.basics.specs.Sizes.{area_size, frame_size}
use Rattle.refusals.specs.Numbers.{answer_by}
use Rattle.refusals.specs.Table.{Row, ◌unless◌, first_of, by}
use Rattle.refusals.specs.declared.Refusal.{Refusal}
use Rattle.lent.specs.Written.{written}
use Rattle.scrambler.specs.Scrambler.{taps_allowed, scrambled}
use Rattle.header_reading.specs.Reading.{header_of, reserved_in, header_table}
use Rattle.header.specs.Header.{ReservedBits}
use Rattle.header.specs.declared.Header.{Header}
use Rattle.frame.specs.Frame.{preamble, area_check}
use Rattle.nearest.specs.Near.{near_header}
use Rattle.repairing.specs.Body.{words_near, repaired_body}
use Rattle.repairing.specs.Repairing.{wrong_bytes}
use Rattle.opening.specs.declared.Opened.{Opened}

-- the 2,072 bytes after the preamble, with the scrambler's bits taken off
unfoldable pub unscrambled : ℕ → List ℕ → List ℕ
unscrambled taps frame = scrambled taps (drop 9 frame)

-- the header's 16 bytes among them; the area of 1,908
abbrev pub header_part : List ℕ → List ℕ
header_part body = take 16 body

abbrev pub area_part : List ℕ → List ℕ
area_part body = take area_size (drop 32 body)

-- the CRC-32 is the one that follows the area
unfoldable pub area_checked : List ℕ → Bool
area_checked body = same (take 4 (drop (32 + area_size) body)) (area_check (area_part body))

-- what is asked of those bytes as repaired, and of what is near them as they came. 8: no codeword is near the coded header, with the zeros that are not
-- sent. 9 and 11: of the header's 16 bytes. 12: no codeword is near one of the eight payload words. 13: the CRC-32 differs.
abbrev pub repaired_table : Bool → Bool → List ℕ → List Row
repaired_table header words body =
    8 unless header
    ∷ header_table (header_part body)
    ++ 12 unless words
    ∷ 13 unless area_checked body
    ∷ []

abbrev pub body_table : List ℕ → List Row
body_table body = repaired_table (is_some (near_header (take 32 body))) (words_near (drop 32 body)) (repaired_body body)

-- what is asked of a frame of 2,081 bytes. 7: the preamble differs. The others: of the bytes after it.
abbrev pub frame_table : ℕ → List ℕ → List Row
frame_table taps frame = 7 unless same (take 9 frame) preamble ∷ body_table (unscrambled taps frame)

-- 1: taps at or above 2^25, or tap 0 clear. 2: the frame is not 2,081 long, or fewer than 1,908 bytes are lent for the area. The others: of the frame.
abbrev pub open_table : ℕ → List ℕ → List ℕ → List Row
open_table taps frame area =
    1 unless taps_allowed taps
    ∷ 2 unless (eqb (length frame) frame_size && leb area_size (length area))
    ∷ frame_table taps frame

unfoldable pub open_refusal : ℕ → List ℕ → List ℕ → ℕ
open_refusal taps frame area = first_of (open_table taps frame area)

-- the header, the reserved bits beside it, and the area of a frame as repaired; how many of its bytes were wrong
unfoldable pub opened_header : ℕ → List ℕ → Header
opened_header taps frame = header_of (header_part (repaired_body (unscrambled taps frame)))

abbrev pub opened_reserved : ℕ → List ℕ → ReservedBits
opened_reserved taps frame = reserved_in (header_part (repaired_body (unscrambled taps frame)))

unfoldable pub opened_area : ℕ → List ℕ → List ℕ
opened_area taps frame = area_part (repaired_body (unscrambled taps frame))

abbrev pub opened_wrong : ℕ → List ℕ → ℕ
opened_wrong taps frame = wrong_bytes taps (drop 9 frame)

-- the answer of `open`, and the area's buffer after it: a refusal leaves the buffer as it was
pub record OpenOutcome (taps : ℕ) (frame before : List ℕ) (r : Result Opened Refusal) (after : List ℕ) : Type 0 where
  pub answer : r ≡ answer_by (open_refusal taps frame before) record { header = opened_header taps frame; repaired = opened_wrong taps frame }
  pub bytes : after ≡ by (open_refusal taps frame before) (written before 0 (opened_area taps frame)) before
