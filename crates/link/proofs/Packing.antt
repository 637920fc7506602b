-- A packing: how pieces stand in the area of a DATA frame. Demand 3 holds for every packing with the one law below; the bench's own (01, "Packing, the
-- bench's own") is an instance. What the law gives for the next frame, busy queue or not.
use mathlib.Core.Path.{◌≡◌, refl}
use mathlib.Core.Bool.{Bool, true, cond}
use mathlib.Core.Option.{Option, none, some}
use mathlib.Core.List.{List, [], ◌∷◌}
use Prim.Native.Nat.{ℕ}
use Rattle.link.specs.Link.{Packet, Piece, Queue, IsQueue, busy}
use Rattle.link.proofs.Machine.{cut}

pub record Packing : Type 0 where
  -- how many bytes of the queue the next frame takes
  pub load : Queue → ℕ
  -- the area of the next frame
  pub area : Queue → List ℕ
  -- the pieces in an area; none: it is against the rules (refusal 14)
  pub read : List ℕ → Option (List Piece)
  -- what is written is read back
  pub read_back : (queue : Queue) → IsQueue queue → busy queue ≡ true → read (area queue) ≡ some (cut (load queue) queue).pieces

-- A frame, opened: whether it is DATA, and its area.
pub record Opened : Type 0 where
  pub is_data : Bool
  pub area : List ℕ

module _ (packing : Packing) where
  -- the next frame: DATA where there is a byte to send
  abbrev pub frame_for : Queue → Opened
  frame_for queue = record { is_data = busy queue; area = packing.area queue }

  -- the pieces in a frame; only a DATA area is looked into
  abbrev pub pieces_in : Opened → Option (List Piece)
  pieces_in opened = cond opened.is_data (packing.read opened.area) (some [])

  -- the frame for a queue has the pieces that are cut from it
  pub frame_pieces : (q : Queue) → IsQueue q → pieces_in (frame_for q) ≡ some (cut (packing.load q) q).pieces
  frame_pieces q h = go q.rest q.waiting h
    where
      of : Option (List ℕ) → List Packet → Queue
      of rest ps = record { rest = rest; waiting = ps }

      go : (rest : Option (List ℕ)) (ps : List Packet) → IsQueue (of rest ps)
          → pieces_in (frame_for (of rest ps)) ≡ some (cut (packing.load (of rest ps)) (of rest ps)).pieces
      go none [] k = refl
      go none (p ∷ ps) k = packing.read_back (of none (p ∷ ps)) k refl
      go (some r) ps k = packing.read_back (of (some r) ps) k refl
