-- The bench's own packing is a packing, as demand 3 asks for one (crate link).
use mathlib.Core.Path.{◌≡◌, refl, ap, ◌∙◌}
use mathlib.Core.Bool.{Bool, true, false}
use mathlib.Core.Option.{Option, none, some}
use mathlib.Core.List.{List, [], ◌∷◌}
use Prim.Native.Nat.{ℕ, ◌-◌}
use native.Mathlib.Omega.{arith}
use lib.ListN.{length, length-append, length-replicate}
use borrow.Author.Tests.{eq-eqb}
use Rattle.basics.specs.Lists.{zeros}
use Rattle.basics.proofs.Lists.{zeros_length}
use Rattle.link.specs.Link.{Packet, Piece, Cut, Queue, IsQueue, busy_with, busy}
use Rattle.link.proofs.Machine.{cut}
use Rattle.link.proofs.Packing.{Packing}
use Rattle.packing.specs.Rules.{records_bytes, area_of, Allowed}
use Rattle.packing.specs.Filling.{fill_waiting, fill_from, fill}
use Rattle.packing.specs.Records.{read}
use Rattle.packing.proofs.Packed.{Packed, records_fit, packed_read}
use Rattle.packing.proofs.Allowed.{packed_allowed}
use Rattle.packing.proofs.Filling.{load, fill_cut, fill_packed}

-- the area of pieces that obey the rules is 1,908 bytes, and is read back
packed_back : (ps : List Piece) → Packed 0 1908 ps → (length (area_of ps) ≡ 1908) × (read (area_of ps) ≡ some ps)
unfolding read
packed_back ps k =
    let fits = records_fit ps 0 1908 k in
    let whole : length (area_of ps) ≡ 1908 = rw (length-append, length-replicate) (omega arith) in
    (whole, rw (eq-eqb (length (area_of ps)) 1908 whole) (packed_read ps (area_of ps) 0 1908 (1908 - length (records_bytes ps)) (omega (arith, whole)) refl k))

-- the area of the next frame
abbrev area : Queue → List ℕ
area q = area_of (fill 1908 q).pieces

pub area_back : (q : Queue) → IsQueue q → busy q ≡ true → read (area q) ≡ some (cut (load q) q).pieces
area_back q h b = (packed_back (fill 1908 q).pieces (fill_packed q h b)).1 ∙ ap (λ (c : Cut). some c.pieces) (fill_cut q h)

unfoldable pub bench : Packing
bench = record { load = load; area = area; read = read; read_back = area_back }

-- What the sender writes where a byte waits is allowed, ..
pub area_allowed : (q : Queue) → IsQueue q → busy q ≡ true → Allowed (area q) (fill 1908 q).pieces
area_allowed q h b =
    let ps = (fill 1908 q).pieces in
    packed_allowed (area q) ps (1908 - length (records_bytes ps)) (packed_back ps (fill_packed q h b)).0 refl (fill_packed q h b)

-- .. it is zeros where none does, ..
pub area_idle : (q : Queue) → busy q ≡ false → area q ≡ zeros 1908
unfolding fill_waiting
area_idle q = go q.rest q.waiting
  where
    go : (rest : Option (List ℕ)) (ps : List Packet) → busy_with rest ps ≡ false → area_of (fill_from 1908 rest ps).pieces ≡ zeros 1908
    go none [] e = refl
    go none (p ∷ ps) e = let z : ◌≡◌ {A = ℕ} 0 1 = cc in absurd (omega arith)
    go (some r) ps e = let z : ◌≡◌ {A = ℕ} 0 1 = cc in absurd (omega arith)

-- .. and has its 1,908 bytes in both cases.
pub area_length : (q : Queue) → IsQueue q → length (area q) ≡ 1908
area_length q h = go (busy q) refl
  where
    go : (test : Bool) → busy q ≡ test → length (area q) ≡ 1908
    go true t = (area_allowed q h t).whole
    go false t = ap length (area_idle q t) ∙ zeros_length 1908
