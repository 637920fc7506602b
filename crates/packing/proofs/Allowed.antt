-- The reader accepts exactly the areas that the rules of paper 01 allow, and the area tells which pieces they are.
use mathlib.Core.Path.{◌≡◌, refl, ap, sym, subst, ◌∙◌}
use mathlib.Core.Logic.{◌↔◌}
use mathlib.Core.Bool.{Bool, true, false, cond}
use mathlib.Core.Option.{Option, none, some}
use mathlib.Core.List.{List, [], ◌∷◌, ◌++◌, append-nil}
use Prim.Native.Nat.{ℕ, ◌+◌, ◌-◌, ◌≤◌, ◌<◌}
use native.Mathlib.Omega.{arith}
use lib.ListN.{length, length-append, length-replicate}
use lib.Seq.{append_snoc}
use lib.Dec.{eqb}
use borrow.Author.Tests.{eqb-true, eq-eqb}
use Rattle.basics.specs.Lists.{zeros, Bytes, is_some}
use Rattle.link.specs.Link.{Piece}
use Rattle.packing.specs.Rules.{records_bytes, area_of, Stands, Allowed}
use Rattle.packing.specs.Records.{read_from, read}
use Rattle.packing.proofs.Packed.{size, Sound, Packed, records_fit, packed_read, read_packed}

-- how many bytes records take
abbrev sizes : List Piece → ℕ
sizes ps = length (records_bytes ps)

sizes_cons : (p : Piece) (ps : List Piece) → sizes (p ∷ ps) ≡ size p + sizes ps
sizes_cons p ps = rw length-append (omega arith)

sizes_append : (ps qs : List Piece) → sizes (ps ++ qs) ≡ sizes ps + sizes qs
sizes_append [] qs = omega arith
sizes_append (p ∷ ps) qs = omega (arith, sizes_cons p (ps ++ qs), sizes_append ps qs, sizes_cons p ps)

no_size : (ps : List Piece) → sizes ps ≡ 0 → ps ≡ []
no_size [] e = refl
no_size (p ∷ ps) e = absurd (omega (arith, sizes_cons p ps))

length_area : (ps : List Piece) → length (area_of ps) ≡ sizes ps + (1908 - sizes ps)
length_area ps = rw (length-append, length-replicate)

-- ---- from the rules to the pieces, one by one

module _ (area : List ℕ) (pieces : List Piece) (a : Allowed area pieces) where
  within : sizes pieces ≤ 1908
  within = omega (arith, length_area pieces, a.whole, ap length a.laid)

  packed_behind : (before ps : List Piece) → pieces ≡ before ++ ps → Packed (sizes before) (1908 - sizes before) ps
  packed_behind before [] e =
      let f : pieces ≡ before = e ∙ append-nil before in
      positive before (subst (λ (l : List Piece). 0 < length l) f a.present)
    where
      positive : (l : List Piece) → 0 < length l → 0 < sizes l
      positive [] h = absurd (omega arith)
      positive (p ∷ l) h = omega (arith, sizes_cons p l)
  packed_behind before (p ∷ ps) e =
      let lengths = a.lengths before ps p e in
      let total : sizes pieces ≡ sizes before + (size p + sizes ps) =
      ap sizes e ∙ sizes_append before (p ∷ ps) ∙ ap (λ n. sizes before + n) (sizes_cons p ps) in
      let step : sizes (before ++ p ∷ []) ≡ sizes before + size p = omega (arith, sizes_append before (p ∷ []), sizes_cons p []) in
      let less : 1908 - sizes (before ++ p ∷ []) ≡ 1908 - sizes before - size p = omega (arith, step) in
      let more = packed_behind (before ++ p ∷ []) ps (e ∙ sym (append_snoc before p ps)) in (
        record {
          low = lengths.0;
          high = lengths.1;
          fits = omega (arith, total, within);
          first = λ f. ap sizes (a.only_first before ps p e f);
          last = λ f. let k = a.only_final before ps p e f in omega (arith, total, ap sizes k.0, k.1);
        },
        (rw (less, step) at more),
      )

  allowed_packed : Packed 0 1908 pieces
  allowed_packed = packed_behind [] pieces refl

-- ---- and back

moved : (p : Piece) (at at' room room' : ℕ) → at ≡ at' → room ≡ room' → Sound at room p → Sound at' room' p
moved p at at' room room' e f s = rw (← e, ← f) s

-- a piece among others
record Among (at room : ℕ) (before : List Piece) (p : Piece) (after : List Piece) : Type 0 where
  sound : Sound (at + sizes before) (room - sizes before) p
  later : (at' room' : ℕ) → at' ≡ at + sizes before + size p → room' ≡ room - sizes before - size p → Packed at' room' after

among : (before after : List Piece) (p : Piece) (at room : ℕ) → Packed at room (before ++ p ∷ after) → Among at room before p after
among [] after p at room k = record {
  sound = moved p at (at + 0) room (room - 0) (omega arith) (omega arith) k.0;
  later = λ at' room' e f.
      let g : at + 0 + size p ≡ at + size p = omega arith in
      let i : room - 0 - size p ≡ room - size p = omega arith in
      rw (e, f) (rw (g, i) k.1);
}
among (q ∷ before) after p at room k =
    let m = among before after p (at + size q) (room - size q) k.1 in
    let c = sizes_cons q before in
    record {
      sound =
          moved p (at + size q + sizes before) (at + sizes (q ∷ before)) (room - size q - sizes before) (room - sizes (q ∷ before))
          (omega (arith, c)) (omega (arith, c)) m.sound;
      later = λ at' room' e f. m.later at' room' (omega (arith, c, e)) (omega (arith, c, f));
    }

nothing_left : (ps : List Piece) (at : ℕ) → Packed at 0 ps → ps ≡ []
nothing_left [] at k = refl
nothing_left (p ∷ ps) at k = absurd (omega (arith, k.0.fits))

pub packed_allowed : (area : List ℕ) (pieces : List Piece) (m : ℕ) → length area ≡ 1908 → area ≡ records_bytes pieces ++ zeros m → Packed 0 1908 pieces
    → Allowed area pieces
packed_allowed area pieces m whole laid k = record {
  whole = whole;
  laid = laid ∙ ap (λ n. records_bytes pieces ++ zeros n) filling;
  present = some_piece pieces k;
  lengths = λ before after p e. let s = (inside before after p e).sound in (s.low, s.high);
  only_first = λ before after p e f. no_size before (omega (arith, (inside before after p e).sound.first f));
  only_final = λ before after p e f.
      let i = inside before after p e in
      let ends = i.sound.last f in
      let none = nothing_left after (sizes before + size p) (i.later (sizes before + size p) 0 (omega arith) (omega (arith, ends))) in
      let l = ap sizes e ∙ sizes_append before (p ∷ after) ∙ ap (λ n. sizes before + n) (sizes_cons p after) in
      (none, omega (arith, ends, l, ap sizes none));
}
  where
    total : length area ≡ sizes pieces + m
    total = ap length laid ∙ rw (length-append, length-replicate)

    filling : m ≡ 1908 - sizes pieces
    filling = omega (arith, total, whole, records_fit pieces 0 1908 k)

    some_piece : (ps : List Piece) → Packed 0 1908 ps → 0 < length ps
    some_piece [] k = absurd (omega arith)
    some_piece (p ∷ ps) k = omega arith

    inside : (before after : List Piece) (p : Piece) → Stands pieces before p after → Among 0 1908 before p after
    inside before after p e = among before after p 0 1908 (rw (← e) k)

-- ---- reading

pub allowed_read : (area : List ℕ) (pieces : List Piece) → Allowed area pieces → read area ≡ some pieces
unfolding read
allowed_read area pieces a =
    rw (eq-eqb (length area) 1908 a.whole)
    (packed_read pieces area 0 1908 (1908 - sizes pieces) (omega (arith, a.whole)) a.laid (allowed_packed area pieces a))

pub read_allowed : (area : List ℕ) (pieces : List Piece) → Bytes area → read area ≡ some pieces → Allowed area pieces
unfolding read
read_allowed area pieces b = go (eqb (length area) 1908) refl
  where
    go : (test : Bool) → eqb (length area) 1908 ≡ test → cond test (read_from area 0) none ≡ some pieces → Allowed area pieces
    go true t e =
        let whole = eqb-true (length area) 1908 t in
        let k = read_packed pieces area 0 1908 b (omega (arith, whole)) e in
        packed_allowed area pieces k.1.0 whole k.1.1 k.0
    go false t e = let z : ◌≡◌ {A = ℕ} 0 1 = cc in absurd (omega arith)

-- An area of bytes is accepted exactly where the rules allow it.
pub read_iff : (area : List ℕ) (pieces : List Piece) → Bytes area → (read area ≡ some pieces) ↔ Allowed area pieces
read_iff area pieces b = (read_allowed area pieces b, allowed_read area pieces)

-- What `is_allowed` answers.
pub allowed_iff : (area : List ℕ) → Bytes area → (is_some (read area) ≡ true) ↔ ((pieces : List Piece) × Allowed area pieces)
allowed_iff area b = (λ e. found (read area) refl e, λ a. ap is_some (allowed_read area a.0 a.1))
  where
    found : (o : Option (List Piece)) → read area ≡ o → is_some o ≡ true → (pieces : List Piece) × Allowed area pieces
    found none r e = let z : ◌≡◌ {A = ℕ} 0 1 = cc in absurd (omega arith)
    found (some pieces) r e = (pieces, read_allowed area pieces b r)

-- The rules leave one way to see an area.
pub allowed_one : (area : List ℕ) (pieces others : List Piece) → Allowed area pieces → Allowed area others → pieces ≡ others
allowed_one area pieces others a b =
    let e : some pieces ≡ some others = sym (allowed_read area pieces a) ∙ allowed_read area others b in
    cc
