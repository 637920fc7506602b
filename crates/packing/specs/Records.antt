-- What the code does: it reads an area record by record, from position 0 on. Reading accepts exactly the areas that `Allowed` allows, with the pieces that it
-- sees in them (`area_exactly` of demand 2), so whoever believes `Allowed` need not believe anything here.
use Rattle.std.specs.List.{list_all}
use Rattle.std.specs.Prelude.{Bool, cond, List, [], ◌∷◌, ℕ, zero, suc, ◌+◌, length, take, drop, ltb, eqb, Some, None, Ok, Err}
use Rattle.std.proofs.Math.Option.{Option, none, some}
use Rattle.basics.specs.Sizes.{area_size}
use Rattle.link.specs.Link.{Piece}
use Rattle.link.specs.Parsing.{mark_at}
use Rattle.marks.specs.Mark.{is_first, is_last, length_in, is_mark}
use Rattle.refusals.specs.declared.Refusal.TheVariants.{Packing}
use Rattle.packing.specs.Found.{Found}
use Rattle.packing.specs.Rules.{shortest}
use Rattle.packing.specs.declared.Record.{Record}

-- ---------------------------------------------------------------- what stands at a position

abbrev pub all_zero : List ℕ → Bool
all_zero = list_all (λ byte. eqb byte 0)

-- The records end here: at least one stands before, and all bytes from here on are 0.
unfoldable pub end_at : List ℕ → ℕ → Found
end_at area at = cond (eqb at 0) (Err Packing) (cond (all_zero (drop at area)) (Ok None) (Err Packing))

abbrev pub placed : ℕ → ℕ → Record
placed at mark = record { first = is_first mark; last = is_last mark; start = at + 2; length = length_in mark }

-- Records end where fewer than 3 bytes remain, and at a mark of 0; then `end_at` tells whether they may.
unfoldable pub record_at : List ℕ → ℕ → Found
record_at area at =
    let room = length (drop at area) in
    let mark = mark_at (drop at area) in
    cond (ltb room shortest) (end_at area at) (cond (eqb mark 0) (end_at area at) (cond (is_mark at room mark) (Ok (Some (placed at mark))) (Err Packing)))

-- ---------------------------------------------------------------- all pieces; none: refusal 14

abbrev pub piece_of : List ℕ → Record → Piece
piece_of area found = record { first = found.first; last = found.last; bytes = take found.length (drop found.start area) }

abbrev pub with_piece : Piece → Option (List Piece) → Option (List Piece)
with_piece piece none = none
with_piece piece (some pieces) = some (piece ∷ pieces)

-- What is found, and how reading goes on behind a record.
abbrev pub by_found : List ℕ → (ℕ → Option (List Piece)) → Found → Option (List Piece)
by_found area further (Ok (Some found)) = with_piece (piece_of area found) (further (found.start + found.length))
by_found area further (Ok None) = some []
by_found area further (Err refusal) = none

-- from a position on, if there are fewer than k records
abbrev pub read_within : ℕ → List ℕ → ℕ → Option (List Piece)
read_within zero area at = none
read_within (suc k) area at = by_found area (read_within k area) (record_at area at)

-- the same, however many there are: they are no more than the bytes (`read_step` in proofs/Records.antt)
unfoldable pub read_from : List ℕ → ℕ → Option (List Piece)
read_from area at = read_within (suc (length area)) area at

unfoldable pub read : List ℕ → Option (List Piece)
read area = cond (eqb (length area) area_size) (read_from area 0) none
