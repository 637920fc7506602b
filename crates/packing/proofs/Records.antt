-- Reading from a position on: what one record says of the rest, with no count of records in the laws. The receiver's loop cites them.
use mathlib.Core.Path.{◌≡◌, refl, ap, sym, ◌∙◌}
use mathlib.Core.Bool.{Bool, true, false, cond, ◌&&◌, ◌||◌}
use mathlib.Core.Option.{Option, none, some}
use mathlib.Core.List.{List, [], ◌∷◌}
use Prim.Native.Nat.{ℕ, zero, suc, ◌+◌, ◌-◌, ◌*◌, ◌/◌, ◌%◌, ◌≤◌, ◌<◌}
use native.Mathlib.Nat.{mod-lt}
use native.Mathlib.Omega.{arith}
use lib.ListN.{length, get_or, drop, length-take, length-drop}
use Rattle.std.specs.Prelude.{Some, None, Ok, Err}
use lib.Dec.{lit<, leb, ltb, eqb}
use borrow.Author.Tests.{leb-true, eqb-true, eqb-false, lt-ltb, le-ltb, ne_eqb, eq-eqb}
use Rattle.basics.specs.Lists.{zeros, is_some}
use Rattle.basics.proofs.Tests.{left_true, right_true}
use Rattle.link.specs.Link.{Piece}
use Rattle.link.specs.Parsing.{mark_at}
use Rattle.link.proofs.Hold.{AllFirst, Shape}
use Rattle.packing.specs.declared.Record.{Record}
use Rattle.refusals.specs.declared.Refusal.{Refusal}
use Rattle.refusals.specs.declared.Refusal.TheVariants.{Packing}
use Rattle.packing.specs.Found.{Found}
use Rattle.packing.specs.Rules.{shortest}
use Rattle.marks.specs.Mark.{is_first, is_last, length_in, may_begin, may_end, is_mark}
use Rattle.packing.specs.Records.{all_zero, end_at, placed, record_at, piece_of, with_piece, by_found, read_within, read_from, read}
use Rattle.packing.proofs.Marks.{zeros_all, all_zeros, zeros_mark}
use Rattle.link.proofs.Store.{mark_from_lem}

-- ---- what a mark says

pub record Marked (at room mark : ℕ) : Type 0 where
  pub spare : mark / 2048 % 8 ≡ 0
  pub low : 1 ≤ length_in mark
  pub fits : 2 + length_in mark ≤ room
  pub first : is_first mark ≡ false → at ≡ 0
  pub last : is_last mark ≡ false → 2 + length_in mark ≡ room

-- of two tests, the second where the first fails
or_second : (a b : Bool) → (a || b) ≡ true → b ≡ false → a ≡ true
or_second true b e f = refl
or_second false b e f = absurd (let z : true ≡ false = sym e ∙ f in let w : ◌≡◌ {A = ℕ} 0 1 = cc in omega arith)

or_first : (a b : Bool) → (a || b) ≡ true → a ≡ false → b ≡ true
or_first false b e f = e
or_first true b e f = absurd (let w : ◌≡◌ {A = ℕ} 0 1 = cc in omega arith)

pub marked : (at room mark : ℕ) → is_mark at room mark ≡ true → Marked at room mark
unfolding is_mark may_begin may_end
marked at room mark e =
    let spare = eqb (mark / 2048 % 8) 0 in
    let low = leb 1 (length_in mark) in
    let fits = leb (2 + length_in mark) room in
    let begins = eqb at 0 || is_first mark in
    let ends = is_last mark || eqb (2 + length_in mark) room in
    let four = left_true (spare && low && fits && begins) ends e in
    let three = left_true (spare && low && fits) begins four in
    let two = left_true (spare && low) fits three in
    record {
      spare = eqb-true (mark / 2048 % 8) 0 (left_true spare low two);
      low = leb-true 1 (length_in mark) (right_true spare low two);
      fits = leb-true (2 + length_in mark) room (right_true (spare && low) fits three);
      first = λ f. eqb-true at 0 (or_second (eqb at 0) (is_first mark) (right_true (spare && low && fits) begins four) f);
      last = λ f. eqb-true (2 + length_in mark) room
          (or_first (is_last mark) (eqb (2 + length_in mark) room) (right_true (spare && low && fits && begins) ends e) f);
    }

-- ---- what stands at a position

not_at : (area : List ℕ) (at : ℕ) (found : Record) → end_at area at ≡ Ok (Some found) → ⊥
unfolding end_at
not_at area at found = go (eqb at 0) (all_zero (drop at area))
  where
    go : (a b : Bool) → ◌≡◌ {A = Found} (cond a (Err Packing) (cond b (Ok None) (Err Packing))) (Ok (Some found)) → ⊥
    go true b e = let z : ◌≡◌ {A = ℕ} 0 1 = cc in omega arith
    go false true e = let z : ◌≡◌ {A = ℕ} 0 1 = cc in omega arith
    go false false e = let z : ◌≡◌ {A = ℕ} 0 1 = cc in omega arith

pub at_mark : (area : List ℕ) (at : ℕ) (found : Record) → record_at area at ≡ Ok (Some found)
    → (is_mark at (length (drop at area)) (mark_at (drop at area)) ≡ true) × (placed at (mark_at (drop at area)) ≡ found)
unfolding record_at
at_mark area at found = go (ltb (length (drop at area)) shortest) (eqb (mark_at (drop at area)) 0) (is_mark at (length (drop at area)) (mark_at (drop at area)))
  where
    go : (a b c : Bool) → cond a (end_at area at) (cond b (end_at area at) (cond c (Ok (Some (placed at (mark_at (drop at area))))) (Err Packing))) ≡ Ok (Some found)
        → (c ≡ true) × (placed at (mark_at (drop at area)) ≡ found)
    go true b c e = absurd (not_at area at found e)
    go false true c e = absurd (not_at area at found e)
    go false false true e = (refl, cc)
    go false false false e = let z : ◌≡◌ {A = ℕ} 0 1 = cc in absurd (omega arith)

-- A record lies in the area, behind its mark, and obeys the rules.
pub record Lies (area : List ℕ) (at : ℕ) (found : Record) : Type 0 where
  pub start : found.start ≡ at + 2
  pub low : 1 ≤ found.length
  pub high : found.length < 2048
  pub inside : found.start + found.length ≤ length area
  pub first : found.first ≡ false → at ≡ 0
  pub last : found.last ≡ false → found.start + found.length ≡ length area

pub lies : (area : List ℕ) (at : ℕ) (found : Record) → record_at area at ≡ Ok (Some found) → Lies area at found
lies area at found e =
    let k = at_mark area at found e in
    let mark = mark_at (drop at area) in
    let m = marked at (length (drop at area)) mark k.0 in
    let room = length-drop at area in
    rw (← k.1) (record {
      start = refl;
      low = m.low;
      high = mod-lt mark (lit< tt);
      inside = omega (arith, m.fits, room, m.low);
      first = m.first;
      last = λ f. omega (arith, m.last f, room, m.low);
    })

-- the records end where one stands before and all bytes are 0
pub at_end : (area : List ℕ) (at : ℕ) → record_at area at ≡ Ok None → (0 < at) × (drop at area ≡ zeros (length (drop at area)))
unfolding record_at end_at
at_end area at e =
    let f = go (ltb (length (drop at area)) shortest) (eqb (mark_at (drop at area)) 0) (is_mark at (length (drop at area)) (mark_at (drop at area))) e in
    let g = ended (eqb at 0) (all_zero (drop at area)) f in
    (positive (eqb-false at 0 g.0), all_zeros (drop at area) g.1)
  where
    go : (a b c : Bool) → cond a (end_at area at) (cond b (end_at area at) (cond c (Ok (Some (placed at (mark_at (drop at area))))) (Err Packing))) ≡ Ok None
        → end_at area at ≡ Ok None
    go true b c e = e
    go false true c e = e
    go false false true e = let z : ◌≡◌ {A = ℕ} 0 1 = cc in absurd (omega arith)
    go false false false e = let z : ◌≡◌ {A = ℕ} 0 1 = cc in absurd (omega arith)

    ended : (a b : Bool) → ◌≡◌ {A = Found} (cond a (Err Packing) (cond b (Ok None) (Err Packing))) (Ok None) → (a ≡ false) × (b ≡ true)
    ended true b e = let z : ◌≡◌ {A = ℕ} 0 1 = cc in absurd (omega arith)
    ended false true e = (refl, refl)
    ended false false e = let z : ◌≡◌ {A = ℕ} 0 1 = cc in absurd (omega arith)

    positive : (at ≡ 0 → ⊥) → 0 < at
    positive h = omega (arith, h)

pub end_at_lem : (area : List ℕ) (at n : ℕ) → 0 < at → drop at area ≡ zeros n → record_at area at ≡ Ok None
unfolding record_at end_at
end_at_lem area at n h e =
    let mark : mark_at (drop at area) ≡ 0 = ap mark_at e ∙ zeros_mark n in
    let all : all_zero (drop at area) ≡ true = ap all_zero e ∙ zeros_all n in
    let end : end_at area at ≡ Ok None = rw (ne_eqb at 0 (λ z. omega arith), all) in
    rw (mark, end) (both (ltb (length (drop at area)) shortest))
  where
    both : (a : Bool) → ◌≡◌ {A = Found} (cond a (Ok None) (Ok None)) (Ok None)
    both true = refl
    both false = refl

-- the same by tests, as code makes them
pub at_few : (area : List ℕ) (at : ℕ) → length area < at + 3 → record_at area at ≡ end_at area at
unfolding record_at
at_few area at h = rw (lt-ltb (length (drop at area)) shortest (simp length-drop (omega arith)))

module _ (area : List ℕ) (at mark : ℕ) (e : mark ≡ get_or area at 0 * 256 + get_or area (at + 1) 0) (h : at + 3 ≤ length area) where
  pub at_zero : mark ≡ 0 → record_at area at ≡ end_at area at
  unfolding record_at
  at_zero z = rw (mark_from_lem area at, ← e, le-ltb (length (drop at area)) shortest (simp length-drop (omega arith)), eq-eqb mark 0 z)

  pub at_other : (mark ≡ 0 → ⊥) → record_at area at ≡ cond (is_mark at (length area - at) mark) (Ok (Some (placed at mark))) (Err Packing)
  unfolding record_at
  at_other n = rw (mark_from_lem area at, ← e, le-ltb (length (drop at area)) shortest (simp length-drop (omega arith)), ne_eqb mark 0 n, length-drop)

-- ---- reading goes on behind a record

-- how many records there may be does not matter, if there may be more than bytes
enough : (k m : ℕ) (area : List ℕ) (at : ℕ) → length area - at < k → length area - at < m → read_within k area at ≡ read_within m area at
enough zero m area at h j = absurd (omega arith)
enough (suc k) zero area at h j = absurd (omega arith)
enough (suc k) (suc m) area at h j = go (record_at area at) refl (λ next. enough k m area next)
  where
    go : (f : Found) → record_at area at ≡ f
        → ((next : ℕ) → length area - next < k → length area - next < m → read_within k area next ≡ read_within m area next)
        → by_found area (read_within k area) f ≡ by_found area (read_within m area) f
    go (Ok (Some found)) e again =
        let l = lies area at found e in
        ap (with_piece (piece_of area found)) (again (found.start + found.length) (omega arith) (omega arith))
    go (Ok None) e again = refl
    go (Err refusal) e again = refl

pub read_step : (area : List ℕ) (at : ℕ) → read_from area at ≡ by_found area (read_from area) (record_at area at)
unfolding read_from
read_step area at = go (record_at area at) refl
  where
    go : (f : Found) → record_at area at ≡ f → by_found area (read_within (length area) area) f ≡ by_found area (read_from area) f
    go (Ok (Some found)) e =
        let l = lies area at found e in
        ap (with_piece (piece_of area found)) (enough (length area) (suc (length area)) area (found.start + found.length) (omega arith) (omega arith))
    go (Ok None) e = refl
    go (Err refusal) e = refl

pub read_record : (area : List ℕ) (at : ℕ) (found : Record) → record_at area at ≡ Ok (Some found)
    → read_from area at ≡ with_piece (piece_of area found) (read_from area (found.start + found.length))
read_record area at found e = read_step area at ∙ ap (by_found area (read_from area)) e

pub read_end : (area : List ℕ) (at : ℕ) → record_at area at ≡ Ok None → read_from area at ≡ some []
read_end area at e = read_step area at ∙ ap (by_found area (read_from area)) e

pub read_against : (area : List ℕ) (at : ℕ) (refusal : Refusal) → record_at area at ≡ Err refusal → read_from area at ≡ none
read_against area at refusal e = read_step area at ∙ ap (by_found area (read_from area)) e

-- all of an area
pub read_whole : (area : List ℕ) → length area ≡ 1908 → read area ≡ read_from area 0
unfolding read
read_whole area h = rw (eq-eqb (length area) 1908 h)

pub read_other : (area : List ℕ) → (length area ≡ 1908 → ⊥) → read area ≡ none
unfolding read
read_other area h = rw (ne_eqb (length area) 1908 h)

-- whether there are pieces is told behind the record
some_piece : (p : Piece) (o : Option (List Piece)) → is_some (with_piece p o) ≡ is_some o
some_piece p none = refl
some_piece p (some ps) = refl

pub some_record : (area : List ℕ) (at : ℕ) (found : Record) → record_at area at ≡ Ok (Some found)
    → is_some (read_from area at) ≡ is_some (read_from area (found.start + found.length))
some_record area at found e =
    ap is_some (read_record area at found e) ∙ some_piece (piece_of area found) (read_from area (found.start + found.length))

-- ---- what was read

-- no piece, at the records' end
pub read_nothing : (area : List ℕ) (at : ℕ) → read_from area at ≡ some [] → record_at area at ≡ Ok None
read_nothing area at e = go (record_at area at) refl (sym (read_step area at) ∙ e)
  where
    no_piece : (p : Piece) (o : Option (List Piece)) → with_piece p o ≡ some [] → ⊥
    no_piece p none e = let z : ◌≡◌ {A = ℕ} 0 1 = cc in omega arith
    no_piece p (some ps) e = let z : ◌≡◌ {A = ℕ} 0 1 = cc in omega arith

    go : (f : Found) → record_at area at ≡ f → by_found area (read_from area) f ≡ some [] → record_at area at ≡ Ok None
    go (Ok (Some found)) f e = absurd (no_piece (piece_of area found) (read_from area (found.start + found.length)) e)
    go (Ok None) f e = f
    go (Err refusal) f e = let z : ◌≡◌ {A = ℕ} 0 1 = cc in absurd (omega arith)

-- a first piece, and those behind it
pub record Begins (area : List ℕ) (at : ℕ) (piece : Piece) (pieces : List Piece) : Type 0 where
  pub found : Record
  pub here : record_at area at ≡ Ok (Some found)
  pub is : piece ≡ piece_of area found
  pub behind : read_from area (found.start + found.length) ≡ some pieces

pub read_piece : (area : List ℕ) (at : ℕ) (piece : Piece) (pieces : List Piece) → read_from area at ≡ some (piece ∷ pieces) → Begins area at piece pieces
read_piece area at piece pieces e = go (record_at area at) refl (sym (read_step area at) ∙ e)
  where
    parts : (p : Piece) (o : Option (List Piece)) → with_piece p o ≡ some (piece ∷ pieces) → (piece ≡ p) × (o ≡ some pieces)
    parts p none e = let z : ◌≡◌ {A = ℕ} 0 1 = cc in absurd (omega arith)
    parts p (some ps) e = (cc, cc)

    go : (f : Found) → record_at area at ≡ f → by_found area (read_from area) f ≡ some (piece ∷ pieces) → Begins area at piece pieces
    go (Ok (Some found)) f e =
        let k = parts (piece_of area found) (read_from area (found.start + found.length)) e in
        record { found = found; here = f; is = k.0; behind = k.1 }
    go (Ok None) f e = let z : ◌≡◌ {A = ℕ} 0 1 = cc in absurd (omega arith)
    go (Err refusal) f e = let z : ◌≡◌ {A = ℕ} 0 1 = cc in absurd (omega arith)

-- its bytes are as many as its mark says
pub piece_length : (area : List ℕ) (at : ℕ) (found : Record) → Lies area at found → length (piece_of area found).bytes ≡ found.length
piece_length area at found l = simp (length-take, length-drop) (omega (arith, l.inside))

-- ---- pieces of an accepted area, as a receiver holds them (`held_bound` of crate link)

all_first : (ps : List Piece) (area : List ℕ) (at : ℕ) → 0 < at → read_from area at ≡ some ps → AllFirst ps
all_first [] area at h e = tt
all_first (p ∷ ps) area at h e =
    let b = read_piece area at p ps e in
    let l = lies area at b.found b.here in (
      rw b.is (set b.found.first l.first),
      rw b.is (omega (arith, piece_length area at b.found l, l.high)),
      all_first ps area (b.found.start + b.found.length) (omega (arith, l.start)) b.behind,
    )
  where
    set : (first : Bool) → (first ≡ false → at ≡ 0) → first ≡ true
    set true f = refl
    set false f = absurd (omega (arith, f refl))

pub read_shape : (area : List ℕ) (ps : List Piece) → read area ≡ some ps → Shape ps
unfolding read
read_shape area [] e = tt
read_shape area (p ∷ ps) e =
    let b = read_piece area 0 p ps (from (eqb (length area) 1908) e) in
    let l = lies area 0 b.found b.here in (
      rw b.is (omega (arith, piece_length area 0 b.found l, l.high)),
      all_first ps area (b.found.start + b.found.length) (omega (arith, l.start)) b.behind,
    )
  where
    from : (test : Bool) → cond test (read_from area 0) none ≡ some (p ∷ ps) → read_from area 0 ≡ some (p ∷ ps)
    from true e = e
    from false e = let z : ◌≡◌ {A = ℕ} 0 1 = cc in absurd (omega arith)
