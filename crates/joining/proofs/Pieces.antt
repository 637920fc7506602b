-- What a piece does, in bytes of the list and of the held part.
use mathlib.Core.Path.{◌≡◌, refl, sym}
use mathlib.Core.Bool.{Bool, true, false}
use mathlib.Core.List.{List, [], ◌∷◌}
use Prim.Native.Nat.{ℕ, ◌+◌, ◌≤◌}
use native.Mathlib.Omega.{arith}
use lib.ListN.{length, length-append}
use Rattle.link.specs.Link.{Piece, on_piece, fits}
use Rattle.link.specs.Store.{layout_packets}
use Rattle.link.proofs.Hold.{AllFirst, Shape, held_bound}
use Rattle.joining.proofs.First.{fits_first}

-- a packet takes two bytes more in the list than its pieces
pub step_size : (held : List ℕ) (first last : Bool) (bytes : List ℕ)
    → length (layout_packets (on_piece held first last bytes).out) + length (on_piece held first last bytes).held ≤ 2 + length held + length bytes
step_size held true true bytes = simp length-append (omega arith)
step_size held true false bytes = omega arith
step_size [] false last bytes = omega arith
step_size (x ∷ held) false true bytes = simp length-append (omega arith)
step_size (x ∷ held) false false bytes = simp length-append (omega arith)

pub step_few : (held : List ℕ) (first last : Bool) (bytes : List ℕ) → length (on_piece held first last bytes).out ≤ 1
step_few held true true bytes = omega arith
step_few held true false bytes = omega arith
step_few [] false last bytes = omega arith
step_few (x ∷ held) false true bytes = omega arith
step_few (x ∷ held) false false bytes = omega arith

-- "last" leaves nothing held
pub step_last : (held : List ℕ) (first last : Bool) (bytes : List ℕ) → last ≡ true → (on_piece held first last bytes).held ≡ []
step_last held first last bytes e = rw e (go held first)
  where
    go : (h : List ℕ) (b : Bool) → (on_piece h b true bytes).held ≡ []
    go h true = refl
    go [] false = refl
    go (x ∷ h) false = refl

pub step_held : (held : List ℕ) (piece : Piece) → length held ≤ 8999 → length piece.bytes ≤ 8999 → fits held (piece ∷ []) ≡ true
    → length (on_piece held piece.first piece.last piece.bytes).held ≤ 8999
step_held held piece h l f = held_bound held (piece ∷ []) h (l, tt) f

pub first_fits_any : (held : List ℕ) (pieces : List Piece) → AllFirst pieces → fits held pieces ≡ true
first_fits_any held [] a = refl
first_fits_any held (p ∷ ps) a = sym (fits_first held p.first p.last p.bytes a.0)

pub first_shape : (pieces : List Piece) → AllFirst pieces → Shape pieces
first_shape [] a = tt
first_shape (p ∷ ps) a = (a.1, a.2)
