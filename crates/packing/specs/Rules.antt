-- The bench's own packing (01, "Packing, the bench's own"): what stands in the area of a DATA frame. A record is a piece of a packet behind its mark; `Allowed`
-- has the paper's rules, one by one. A reader accepts exactly the areas that they allow: `area_exactly` of demand 2.
use Rattle.std.specs.Prelude.{◌≡◌, false, cond, List, [], ◌∷◌, ◌++◌, ℕ, ◌+◌, ◌-◌, ◌≤◌, ◌<◌, length}
use Rattle.basics.specs.Lists.{zeros}
use Rattle.basics.specs.Sizes.{area_size, first_bit, last_bit}
use Rattle.link.specs.Link.{Piece}
use Rattle.link.specs.Store.{marked}

-- ---------------------------------------------------------------- records

-- A record's mark: bit 15 "first of its packet", bit 14 "last of its packet", bits 13-11 zero, bits 10-0 the length.
abbrev pub record_mark : Piece → ℕ
record_mark piece = cond piece.first first_bit 0 + cond piece.last last_bit 0 + length piece.bytes

-- the mark, high byte first, and the bytes
abbrev pub record_bytes : Piece → List ℕ
record_bytes piece = marked (record_mark piece) piece.bytes

abbrev pub records_bytes : List Piece → List ℕ
records_bytes [] = []
records_bytes (piece ∷ pieces) = record_bytes piece ++ records_bytes pieces

-- the bytes of the shortest record: a mark and one byte
abbrev pub shortest : ℕ
shortest = 3

-- records, then zeros to byte 1,908
abbrev pub area_of : List Piece → List ℕ
area_of pieces = records_bytes pieces ++ zeros (area_size - length (records_bytes pieces))

-- ---------------------------------------------------------------- the rules

-- The piece stands in the list, behind some and before others.
abbrev pub Stands : List Piece → List Piece → Piece → List Piece → Type 0
Stands pieces before piece after = pieces ≡ before ++ piece ∷ after

-- The pieces stand in the area as the paper allows; anything else is refused (14).
pub record Allowed (area : List ℕ) (pieces : List Piece) : Type 0 where
  -- the area is 1,908 bytes;
  pub whole : length area ≡ area_size
  -- they are the records', and all bytes from their end on are 0: where 3 or more bytes are left, a mark of 0 stands there;
  pub laid : area ≡ area_of pieces
  -- at least one record stands in the area;
  pub present : 0 < length pieces
  -- a length is at least 1, and has the 11 bits 10-0;
  pub lengths : (before after : List Piece) (piece : Piece) → Stands pieces before piece after
      → (1 ≤ length piece.bytes) × (length piece.bytes < 2048)
  -- only the first record may lack "first";
  pub only_first : (before after : List Piece) (piece : Piece) → Stands pieces before piece after → piece.first ≡ false → before ≡ []
  -- only the final one may lack "last", and it then ends at byte 1,908
  pub only_final : (before after : List Piece) (piece : Piece) → Stands pieces before piece after → piece.last ≡ false
      → (after ≡ []) × (length (records_bytes pieces) ≡ area_size)
