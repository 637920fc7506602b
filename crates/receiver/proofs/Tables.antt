-- The rows 2 and 3, and 11, 14 and 15: what is known where none of them applies, and the number of 14 and 15 by what was read of the area.
use mathlib.Core.Path.{◌≡◌, refl}
use mathlib.Core.Bool.{Bool, true, false, not, cond, ◌&&◌}
use mathlib.Core.Option.{Option, none, some}
use mathlib.Core.List.{List, []}
use Prim.Native.Nat.{ℕ, ◌≤◌}
use native.Mathlib.Omega.{arith}
use lib.Dec.{eqb, leb}
use lib.ListN.{length}
use borrow.Author.Tests.{eqb-true, leb-true, ltb-false, eq-eqb, le-leb, le-ltb}
use Rattle.basics.specs.Numbers.{above}
use Rattle.basics.proofs.Tests.{left_true, right_true}
use Rattle.refusals.specs.Table.{◌when◌, first_of}
use Rattle.refusals.proofs.Table.{row_passed, unless_passed}
use Rattle.link.specs.Link.{Piece, fits}
use Rattle.packing.specs.Records.{read}
use Rattle.header.specs.Header.{header_fits}
use denote.Enum.Bare.{sameb}
use Rattle.header.specs.contracts.FrameKind.{the_type}
use Rattle.header.specs.declared.FrameKind.TheVariants.{Idle, Data, Type2, Type3}
use Rattle.header.specs.declared.FrameKind.{FrameKind}
use Rattle.header.specs.declared.Header.{Header}
use Rattle.receiver.specs.Applying.{is_data, pieces_of, buffers_table, area_table, opened_table}

-- ---- 2 and 3

pub record BuffersPassed (area : List ℕ) (held : ℕ) (hold list : List ℕ) : Type 0 where
  pub sized : length area ≡ 1908
  pub long : length hold ≡ 9000
  pub room : 10907 ≤ length list
  pub most : held ≤ 8999

module _ (area : List ℕ) (held : ℕ) (hold list : List ℕ) where
  pub buffers_passed : first_of (buffers_table area held hold list) ≡ 0 → BuffersPassed area held hold list
  buffers_passed e =
      let sized = eqb (length area) 1908 in
      let long = eqb (length hold) 9000 in
      let room = leb 10907 (length list) in
      let sizes = unless_passed 2 (sized && long && room) _ (omega arith) e in
      let most = row_passed (3 when above held 8999) [] (omega arith) sizes.1 in
      let two = left_true (sized && long) room sizes.0 in
      record {
        sized = eqb-true (length area) 1908 (left_true sized long two);
        long = eqb-true (length hold) 9000 (right_true sized long two);
        room = leb-true 10907 (length list) (right_true (sized && long) room sizes.0);
        most = ltb-false 8999 held most.0;
      }

  pub buffers_pass : BuffersPassed area held hold list → first_of (buffers_table area held hold list) ≡ 0
  unfolding first_of
  buffers_pass p = rw (
    eq-eqb (length area) 1908 p.sized,
    eq-eqb (length hold) 9000 p.long,
    le-leb 10907 (length list) p.room,
    le-ltb 8999 held p.most,
  )

-- ---- 14 and 15

pub read_as : (held : List ℕ) (pieces : List Piece) → first_of (area_table held (some pieces)) ≡ cond (fits held pieces) 0 15
unfolding first_of
read_as held pieces = go (fits held pieces)
  where
    go : (test : Bool) → ◌≡◌ {A = ℕ} (cond (not test) 15 0) (cond test 0 15)
    go true = refl
    go false = refl

pub record AreaPassed (held : List ℕ) (records : Option (List Piece)) : Type 0 where
  pub pieces : List Piece
  pub are : records ≡ some pieces
  pub fitting : fits held pieces ≡ true

pub area_passed : (held : List ℕ) (records : Option (List Piece)) → first_of (area_table held records) ≡ 0 → AreaPassed held records
unfolding first_of
area_passed held none e = absurd (omega arith)
area_passed held (some pieces) e =
    record { pieces = pieces; are = refl; fitting = (unless_passed 15 (fits held pieces) [] (omega arith) e).0 }

-- as the code tests it
pub data_tested : (kind : FrameKind) → is_data kind ≡ sameb the_type kind Data
data_tested Idle = refl
data_tested Data = refl
data_tested Type2 = refl
data_tested Type3 = refl

-- the records of a DATA area, and of another
pub data_records : (kind : FrameKind) (area : List ℕ) → is_data kind ≡ true → pieces_of kind area ≡ read area
data_records kind area e = rw e

pub other_records : (kind : FrameKind) (area : List ℕ) → is_data kind ≡ false → pieces_of kind area ≡ some []
other_records kind area e = rw e

-- ---- 11, before them

module _ (header : Header) (area held : List ℕ) where
  pub opened_passed : first_of (opened_table header area held) ≡ 0
      → (header_fits header ≡ true) × (first_of (area_table held (pieces_of header.kind area)) ≡ 0)
  opened_passed e = unless_passed 11 (header_fits header) _ (omega arith) e

  -- where it does not apply the area decides
  pub opened_by_area : header_fits header ≡ true → first_of (opened_table header area held) ≡ first_of (area_table held (pieces_of header.kind area))
  unfolding first_of
  opened_by_area fit = rw fit
