-- Packets and their pieces, the queue in which packets wait, and what pieces do to a held part, as the contracts and demand 3 speak of them. No byte of a coded
-- frame, no buffer and no packing stands here. The words, here and in the files beside this one:
--
--   packet       1 to 9,000 bytes, put into the sender's queue
--   piece        the part of a packet that stands in one frame, and whether it is the first and the last of its packet (01 says "record")
--   frame        here: the list of its pieces, none in an IDLE frame. Frames of every type are counted 0, 1, 2, .. as they are sent;
--                the number on the wire is that count modulo 65,536
--   mark         what became of a frame: accepted by the receiver, or lost (it was missing, or it came damaged and was refused)
--   ledger       what was sent, read off the frames: a line for each packet whose last piece has been sent, in order
--   line         the packet, the frame with its first piece and the frame with its last piece
--   held part    what the receiver keeps of a packet whose last piece it waits for; empty where it waits for none
--   missed       how many frames the receiver counts as lost before a frame that it accepts
use Rattle.std.specs.Prelude.{Bool, true, false, List, [], ◌∷◌, ◌++◌, ℕ, zero, suc, ◌+◌, ◌≤◌, ◌<◌, length, leb}
use Rattle.std.proofs.Math.Option.{Option, none, some}
use Rattle.basics.specs.Sizes.{most_packet, most_held}
use Rattle.basics.specs.Counts.{missed_frames}

abbrev pub Packet : Type 0
Packet = List ℕ

-- a packet is 1 to 9,000 bytes (01, "Packing")
abbrev pub IsPacket : Packet → Type 0
IsPacket packet = (0 < length packet) × (length packet ≤ most_packet)

abbrev pub ArePackets : List Packet → Type 0
ArePackets [] = Unit {0}
ArePackets (packet ∷ packets) = IsPacket packet × ArePackets packets

pub record Piece : Type 0 where
  pub first : Bool
  pub last : Bool
  pub bytes : List ℕ

-- ---------------------------------------------------------------- the sender (01, "Queue" and "Next frame")

-- The queue: the unsent rest of a packet that is begun, if there is one, and the packets behind it.
pub record Queue : Type 0 where
  pub rest : Option (List ℕ)
  pub waiting : List Packet

abbrev pub empty : Queue
empty = record { rest = none; waiting = [] }

-- a queue that a sender can have: of a packet that is begun, 1 to 8,999 bytes are unsent
abbrev pub IsRest : Option (List ℕ) → Type 0
IsRest none = Unit {0}
IsRest (some rest) = (0 < length rest) × (length rest ≤ most_held)

abbrev pub IsQueue : Queue → Type 0
IsQueue queue = IsRest queue.rest × ArePackets queue.waiting

-- whether there is a byte to send
abbrev pub busy_with : Option (List ℕ) → List Packet → Bool
busy_with none [] = false
busy_with none (packet ∷ packets) = true
busy_with (some rest) packets = true

abbrev pub busy : Queue → Bool
busy queue = busy_with queue.rest queue.waiting

-- What one frame takes from the queue: its pieces, and the queue that is left.
pub record Cut : Type 0 where
  pub pieces : List Piece
  pub left : Queue

abbrev pub cut_nothing : Option (List ℕ) → List Packet → Cut
cut_nothing rest packets = record { pieces = []; left = record { rest = rest; waiting = packets } }

abbrev pub cut_last : Piece → List ℕ → List Packet → Cut
cut_last piece rest packets = record { pieces = piece ∷ []; left = record { rest = some rest; waiting = packets } }

abbrev pub piece_then : Piece → Cut → Cut
piece_then piece more = record { pieces = piece ∷ more.pieces; left = more.left }

-- ---------------------------------------------------------------- the receiver (01, "Receiving")

-- What pieces do: the held part after them, and the packets that they complete.
pub record Step : Type 0 where
  pub held : List ℕ
  pub out : List Packet

-- A piece with "first" drops a held part; one without it and with nothing held is skipped; "last" completes a packet.
abbrev pub on_piece : List ℕ → Bool → Bool → List ℕ → Step
on_piece held true true bytes = record { held = []; out = bytes ∷ [] }
on_piece held true false bytes = record { held = bytes; out = [] }
on_piece [] false last bytes = record { held = []; out = [] }
on_piece (x ∷ held) false true bytes = record { held = []; out = ((x ∷ held) ++ bytes) ∷ [] }
on_piece (x ∷ held) false false bytes = record { held = (x ∷ held) ++ bytes; out = [] }

abbrev pub step_then : Step → Step → Step
step_then before after = record { held = after.held; out = before.out ++ after.out }

abbrev pub on_pieces : List ℕ → List Piece → Step
on_pieces held [] = record { held = held; out = [] }
on_pieces held (piece ∷ pieces) =
    let step = on_piece held piece.first piece.last piece.bytes in
    step_then step (on_pieces step.held pieces)

-- Refusal 15 is given where `fits` is false: the first piece continues a held part, and the sum passes 9,000, or 8,999 without "last".
abbrev pub most_joined : Bool → ℕ
most_joined true = most_packet
most_joined false = most_held

abbrev pub fits_piece : List ℕ → Bool → Bool → List ℕ → Bool
fits_piece [] first last bytes = true
fits_piece (x ∷ held) true last bytes = true
fits_piece (x ∷ held) false last bytes = leb (length (x ∷ held) + length bytes) (most_joined last)

abbrev pub fits : List ℕ → List Piece → Bool
fits held [] = true
fits held (piece ∷ pieces) = fits_piece held piece.first piece.last piece.bytes

-- A frame is taken, with its missed count and the packets that it completes; or it is refused, with the number of the refusal.
pub data Answer : Type 0 where
  taken : ℕ → List Packet → Answer
  refused : ℕ → Answer

-- the missed count of a frame, 0 where none was expected
abbrev pub missed : Option ℕ → ℕ → ℕ
missed none number = 0
missed (some expected) number = missed_frames number expected

-- what is still held after frames were missed
abbrev pub held_after : ℕ → List ℕ → List ℕ
held_after zero held = held
held_after (suc n) held = []
