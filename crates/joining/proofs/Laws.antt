-- What the crates above need of the pieces of an area, whoever sent it: none is empty, they take no more than the area, and so the list that they give is short
-- enough.
use mathlib.Core.Path.{◌≡◌, ap, ◌∙◌}
use mathlib.Core.Option.{some}
use mathlib.Core.List.{List, [], ◌∷◌, ◌++◌}
use Prim.Native.Nat.{ℕ, ◌+◌, ◌≤◌}
use native.Mathlib.Omega.{arith}
use lib.ListN.{length, length-append}
use Rattle.link.specs.Link.{Piece, on_piece, on_pieces}
use Rattle.link.specs.Store.{layout_packets}
use Rattle.link.proofs.Hold.{Shape}
use Rattle.link.proofs.Reassembly.{Filled}
use Rattle.packing.specs.Rules.{records_bytes}
use Rattle.packing.specs.Records.{read_from, read}
use Rattle.packing.proofs.Records.{lies, read_piece, piece_length, read_shape}
use Rattle.joining.proofs.First.{from_start}
use Rattle.link.proofs.Store.{lists_append}
use Rattle.joining.proofs.Pieces.{step_size}

-- pieces as any area has them that is not against the packing rules, or not looked into
pub record AreaPieces (pieces : List Piece) : Type 0 where
  pub shape : Shape pieces
  pub filled : Filled pieces
  pub few : length (records_bytes pieces) ≤ 1908

pub no_pieces : AreaPieces []
no_pieces = record { shape = tt; filled = tt; few = omega arith }

-- none of them is empty
read_filled : (pieces : List Piece) (area : List ℕ) (at : ℕ) → read_from area at ≡ some pieces → Filled pieces
read_filled [] area at e = tt
read_filled (piece ∷ pieces) area at e =
    let b = read_piece area at piece pieces e in
    let l = lies area at b.found b.here in
    (rw b.is (omega (arith, piece_length area at b.found l, l.low)), read_filled pieces area (b.found.start + b.found.length) b.behind)

-- their records lie in the area
inside_area : (pieces : List Piece) (area : List ℕ) (at : ℕ) → at ≤ length area → read_from area at ≡ some pieces
    → at + length (records_bytes pieces) ≤ length area
inside_area [] area at h e = omega arith
inside_area (piece ∷ pieces) area at h e =
    let b = read_piece area at piece pieces e in
    let l = lies area at b.found b.here in
    let bytes : length piece.bytes ≡ b.found.length = ap (λ (q : Piece). length q.bytes) b.is ∙ piece_length area at b.found l in
    let more = inside_area pieces area (b.found.start + b.found.length) l.inside b.behind in
    omega (arith, bytes, more, l.start, length-append piece.bytes (records_bytes pieces))

pub area_pieces : (area : List ℕ) (pieces : List Piece) → read area ≡ some pieces → AreaPieces pieces
area_pieces area pieces whole =
    let start = from_start area pieces whole in
    record {
      shape = read_shape area pieces whole;
      filled = read_filled pieces area 0 start.1;
      few = omega (arith, inside_area pieces area 0 (omega arith) start.1, start.0);
    }

-- a packet takes no more bytes in the list than its records in the areas, but for what was held
out_size : (held : List ℕ) (pieces : List Piece)
    → length (layout_packets (on_pieces held pieces).out) + length (on_pieces held pieces).held ≤ length held + length (records_bytes pieces)
out_size held [] = omega arith
out_size held (piece ∷ pieces) =
    let step = on_piece held piece.first piece.last piece.bytes in
    let more = on_pieces step.held pieces in
    let out : length (layout_packets (step.out ++ more.out)) ≡ length (layout_packets step.out) + length (layout_packets more.out) =
    ap length (lists_append step.out more.out) ∙ length-append (layout_packets step.out) (layout_packets more.out) in
    omega (
      arith,
      out,
      step_size held piece.first piece.last piece.bytes,
      out_size step.held pieces,
      length-append piece.bytes (records_bytes pieces),
    )

pub out_listed : (held : List ℕ) (pieces : List Piece) → AreaPieces pieces → length held ≤ 8999
    → length (layout_packets (on_pieces held pieces).out) ≤ 10907
out_listed held pieces a low = omega (arith, out_size held pieces, a.few)
