-- The rules piece by piece, from a position on: `Packed`. Reading accepts the records of exactly such pieces, followed by zeros.
use mathlib.Core.Path.{◌≡◌, refl, ap, sym, ◌∙◌}
use mathlib.Core.Bool.{Bool, true, false, ◌||◌}
use mathlib.Core.Option.{some}
use mathlib.Core.List.{List, [], ◌∷◌, ◌++◌, append_assoc}
use Prim.Native.Nat.{ℕ, ◌+◌, ◌-◌, ◌≤◌, ◌<◌}
use native.Mathlib.Omega.{arith}
use lib.ListN.{length, take, drop, length-append, length-drop, take-append-drop}
use lib.Seq.{take-append_seam, drop-append_seam, drop-drop}
use lib.Dec.{eqb}
use borrow.Author.Tests.{le-leb, le-ltb, eq-eqb, ne_eqb}
use Rattle.basics.specs.Lists.{zeros, Bytes}
use Rattle.basics.proofs.Lists.{bytes_drop}
use Rattle.link.proofs.RoundTrip.{marked_back}
use Rattle.link.specs.Link.{Piece}
use Rattle.link.specs.Parsing.{mark_at}
use Rattle.link.proofs.Store.{mark_back}
use Rattle.packing.specs.declared.Record.{Record}
use Rattle.std.specs.Prelude.{Some, Ok}
use Rattle.packing.specs.Rules.{shortest, record_mark, record_bytes, records_bytes}
use Rattle.marks.specs.Mark.{length_in, may_begin, may_end, is_mark}
use Rattle.packing.specs.Records.{placed, record_at, piece_of, read_from}
use Rattle.packing.proofs.Marks.{mark_fits, mark_length, mark_spare, mark_first, mark_last, mark_is}
use Rattle.packing.proofs.Records as records

-- the bytes of a record
abbrev pub size : Piece → ℕ
size piece = 2 + length piece.bytes

-- a piece that may stand at a position, with `room` bytes left
pub record Sound (at room : ℕ) (piece : Piece) : Type 0 where
  pub low : 1 ≤ length piece.bytes
  pub high : length piece.bytes < 2048
  pub fits : size piece ≤ room
  pub first : piece.first ≡ false → at ≡ 0
  pub last : piece.last ≡ false → size piece ≡ room

abbrev pub Packed : ℕ → ℕ → List Piece → Type 0
Packed at room [] = 0 < at
Packed at room (piece ∷ pieces) = Sound at room piece × Packed (at + size piece) (room - size piece) pieces

pub records_fit : (ps : List Piece) (at room : ℕ) → Packed at room ps → length (records_bytes ps) ≤ room
records_fit [] at room k = omega arith
records_fit (p ∷ ps) at room k =
    omega (arith, length-append p.bytes (records_bytes ps), records_fit ps (at + size p) (room - size p) k.1, k.0.fits)

-- ---- what stands so is read

or_left : (a b : Bool) → (b ≡ false → a ≡ true) → (a || b) ≡ true
or_left true b h = refl
or_left false true h = refl
or_left false false h = h refl

or_right : (a b : Bool) → (a ≡ false → b ≡ true) → (a || b) ≡ true
or_right true b h = refl
or_right false b h = h refl

sound_mark : (at room : ℕ) (p : Piece) → Sound at room p → is_mark at room (record_mark p) ≡ true
unfolding is_mark may_begin may_end
sound_mark at room p s =
    let n = length p.bytes in
    rw (
      mark_spare n s.high p.first p.last,
      mark_length n s.high p.first p.last,
      mark_first n s.high p.first p.last,
      mark_last n s.high p.first p.last,
      le-leb 1 n s.low,
      le-leb (2 + n) room s.fits,
      or_left (eqb at 0) p.first (λ f. eq-eqb at 0 (s.first f)),
      or_right p.last (eqb (2 + n) room) (λ f. eq-eqb (2 + n) room (s.last f)),
    )

-- a record's bytes at a position
module _ (p : Piece) (area behind : List ℕ) (at room : ℕ) (h : at + room ≡ length area) (e : drop at area ≡ record_bytes p ++ behind) (s : Sound at room p) where
  mark_here : mark_at (drop at area) ≡ record_mark p
  mark_here = ap mark_at e ∙ mark_back (record_mark p) (p.bytes ++ behind) (mark_fits (length p.bytes) s.high p.first p.last)

  record_here : record_at area at ≡ Ok (Some (placed at (record_mark p)))
  unfolding record_at
  record_here =
      let left : length (drop at area) ≡ room = simp length-drop (omega arith) in
      rw (
        mark_here,
        left,
        le-ltb room shortest (omega (arith, s.low, s.fits)),
        ne_eqb (record_mark p) 0 (λ z. omega (arith, s.low, z)),
        sound_mark at room p s,
      )

  behind_here : drop (at + size p) area ≡ behind
  behind_here =
      sym (drop-drop (size p) at area) ∙ ap (drop (size p)) e
      ∙ sym (drop-drop (length p.bytes) 2 (record_bytes p ++ behind)) ∙ drop-append_seam p.bytes behind

  bytes_here : take (length p.bytes) (drop (at + 2) area) ≡ p.bytes
  bytes_here =
      ap (take (length p.bytes)) (sym (drop-drop 2 at area) ∙ ap (drop 2) e) ∙ take-append_seam p.bytes behind

  piece_here : piece_of area (placed at (record_mark p)) ≡ p
  piece_here =
      let n = length p.bytes in
      rw (mark_length n s.high p.first p.last, mark_first n s.high p.first p.last, mark_last n s.high p.first p.last, bytes_here)

  next_here : at + 2 + length_in (record_mark p) ≡ at + size p
  next_here = rw (mark_length (length p.bytes) s.high p.first p.last) (omega arith)

pub packed_read : (ps : List Piece) (area : List ℕ) (at room m : ℕ) → at + room ≡ length area → drop at area ≡ records_bytes ps ++ zeros m → Packed at room ps
    → read_from area at ≡ some ps
packed_read [] area at room m h e k = records.read_end area at (records.end_at_lem area at m k e)
packed_read (p ∷ ps) area at room m h e k =
    let behind = records_bytes ps ++ zeros m in
    let f : drop at area ≡ record_bytes p ++ behind = e ∙ append_assoc (record_bytes p) (records_bytes ps) (zeros m) in
    let s = k.0 in
    records.read_record area at (placed at (record_mark p)) (record_here p area behind at room h f s)
    ∙ rw (
      piece_here p area behind at room h f s,
      next_here p area behind at room h f s,
      packed_read ps area (at + size p) (room - size p) m (omega (arith, s.fits)) (behind_here p area behind at room h f s) k.1,
    )

-- ---- what is read stands so, in an area of bytes

mark_bound : (l : List ℕ) → Bytes l → mark_at l < 65536
mark_bound [] b = omega arith
mark_bound (x ∷ []) b = omega (arith, b.0)
mark_bound (x ∷ y ∷ l) b = omega (arith, b.0, b.1.0)

module _ (area : List ℕ) (at room : ℕ) (b : Bytes area) (h : at + room ≡ length area) (found : Record) (here : record_at area at ≡ Ok (Some found)) where
  l : records.Lies area at found
  l = records.lies area at found here

  n : length (piece_of area found).bytes ≡ found.length
  n = records.piece_length area at found l

  sound_here : Sound at room (piece_of area found)
  sound_here = record {
    low = omega (arith, n, l.low);
    high = omega (arith, n, l.high);
    fits = omega (arith, n, l.start, l.inside);
    first = l.first;
    last = λ f. omega (arith, n, l.start, l.last f);
  }

  mark_found : record_mark (piece_of area found) ≡ mark_at (drop at area)
  mark_found =
      let mark = mark_at (drop at area) in
      let k = records.at_mark area at found here in
      let m = records.marked at (length (drop at area)) mark k.0 in
      rw (n, ← k.1) (mark_is mark (mark_bound (drop at area) (bytes_drop at area b)) m.spare)

  laid_here : record_bytes (piece_of area found) ++ drop (at + size (piece_of area found)) area ≡ drop at area
  laid_here =
      let left = drop at area in
      let bytes : (piece_of area found).bytes ≡ take found.length (drop 2 left) = rw (l.start, drop-drop) in
      let later : drop (at + size (piece_of area found)) area ≡ drop found.length (drop 2 left) =
      rw (n, drop-drop found.length 2 left, drop-drop (2 + found.length) at area) in
      rw (mark_found, later, bytes, take-append-drop found.length (drop 2 left))
      (marked_back left (bytes_drop at area b) (simp length-drop (omega (arith, l.start, l.inside))))

-- a record before others
laid_before : (p : Piece) (ps : List Piece) (left behind : List ℕ) (m : ℕ) → record_bytes p ++ behind ≡ left → behind ≡ records_bytes ps ++ zeros m
    → left ≡ records_bytes (p ∷ ps) ++ zeros m
laid_before p ps left behind m e f = sym e ∙ ap (λ t. record_bytes p ++ t) f ∙ sym (append_assoc (record_bytes p) (records_bytes ps) (zeros m))

pub read_packed : (ps : List Piece) (area : List ℕ) (at room : ℕ) → Bytes area → at + room ≡ length area → read_from area at ≡ some ps
    → Packed at room ps × ((m : ℕ) × (drop at area ≡ records_bytes ps ++ zeros m))
read_packed [] area at room b h e =
    let k = records.at_end area at (records.read_nothing area at e) in
    (k.0, (length (drop at area), k.1))
read_packed (p ∷ ps) area at room b h e =
    let g = records.read_piece area at p ps e in
    let q = piece_of area g.found in
    let l = records.lies area at g.found g.here in
    let n = records.piece_length area at g.found l in
    let s = sound_here area at room b h g.found g.here in
    let next : at + size q ≡ g.found.start + g.found.length = omega (arith, n, l.start) in
    let more = read_packed ps area (at + size q) (room - size q) b (omega (arith, s.fits)) (ap (read_from area) next ∙ g.behind) in
    let laid = laid_here area at room b h g.found g.here in
    rw g.is ((s, more.0), (more.1.0, laid_before q ps (drop at area) (drop (at + size q) area) more.1.0 laid more.1.1))
