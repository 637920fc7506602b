-- Whether the first record of an area fits, by the tests that the code makes.
use mathlib.Core.Path.{◌≡◌, refl, sym, ap, ◌∙◌}
use mathlib.Core.Bool.{Bool, true, false, cond}
use mathlib.Core.Option.{Option, none, some}
use mathlib.Core.List.{List, [], ◌∷◌}
use Prim.Native.Nat.{ℕ, ◌+◌}
use native.Mathlib.Omega.{arith}
use lib.ListN.{length}
use lib.Dec.{eqb}
use borrow.Author.Tests.{eqb-true}
use Rattle.link.specs.Link.{Piece, fits_piece, fits}
use Rattle.packing.specs.declared.Record.{Record}
use Rattle.std.specs.Prelude.{Some, None, Ok, Err}
use Rattle.refusals.specs.declared.Refusal.{Refusal}
use Rattle.packing.specs.Records.{record_at, piece_of, with_piece, read_from, read}
use Rattle.packing.proofs.Records.{at_end, read_record, read_against}

-- ---- whether a record fits

-- one with "first" does
pub fits_first : (held : List ℕ) (first last : Bool) (bytes : List ℕ) → first ≡ true → true ≡ fits_piece held first last bytes
fits_first [] first last bytes e = refl
fits_first (x ∷ held) first last bytes e = rw e

-- ---- an area that is read has 1,908 bytes, and is read from position 0 on

pub from_start : (area : List ℕ) (pieces : List Piece) → read area ≡ some pieces → (length area ≡ 1908) × (read_from area 0 ≡ some pieces)
unfolding read
from_start area pieces = go (eqb (length area) 1908) refl
  where
    go : (t : Bool) → eqb (length area) 1908 ≡ t → cond t (read_from area 0) none ≡ some pieces → (length area ≡ 1908) × (read_from area 0 ≡ some pieces)
    go true long e = (eqb-true (length area) 1908 long, e)
    go false long e = let z : ◌≡◌ {A = ℕ} 0 1 = cc in absurd (omega arith)

-- ---- the first record: there is one, and it decides

module _ (held area : List ℕ) (pieces : List Piece) (whole : read area ≡ some pieces) where
  pub no_end : record_at area 0 ≡ Ok None → true ≡ fits held pieces
  no_end here = absurd (omega (arith, (at_end area 0 here).0))

  pub no_against : (refusal : Refusal) → record_at area 0 ≡ Err refusal → true ≡ fits held pieces
  no_against refusal here =
      let none-are : some pieces ≡ none = sym (from_start area pieces whole).1 ∙ read_against area 0 refusal here in
      let z : ◌≡◌ {A = ℕ} 0 1 = cc in
      absurd (omega arith)

  pub by_first : (found : Record) → record_at area 0 ≡ Ok (Some found)
      → fits_piece held found.first found.last (piece_of area found).bytes ≡ fits held pieces
  by_first found here = go (read_from area (found.start + found.length)) (sym (from_start area pieces whole).1 ∙ read_record area 0 found here)
    where
      piece : Piece
      piece = piece_of area found

      go : (o : Option (List Piece)) → some pieces ≡ with_piece piece o → fits_piece held piece.first piece.last piece.bytes ≡ fits held pieces
      go none e = let z : ◌≡◌ {A = ℕ} 0 1 = cc in absurd (omega arith)
      go (some more) e = let are : piece ∷ more ≡ pieces = cc in ap (fits held) are
