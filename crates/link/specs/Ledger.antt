-- What was sent, and what became of it: the ledger is read off the frames sent; a mark for each frame tells whether it was accepted; the two together tell
-- which packets are to come out, and how many frames were lost between accepted ones.
--
-- An example (computed, with more of it, in proofs/Examples.antt): the packets 1 2 3 and 4 5 are put, and three frames sent that take two bytes each.
-- Frame 0 has 1 2, the first piece of a packet; frame 1 has 3, its last, and 4, the first of the next; frame 2 has 5, the last. The ledger has a line for
-- 1 2 3, from frame 0 to frame 1, and a line for 4 5, from frame 1 to frame 2. If frame 1 is lost neither comes out, and frame 2 counts one frame missed;
-- if only frame 2 is lost 1 2 3 comes out.
use Rattle.std.specs.Prelude.{◌≡◌, Bool, true, false, ◌&&◌, ◌||◌, cond, List, [], ◌∷◌, ◌++◌, ℕ, zero, suc, ◌-◌, ◌<◌, ltb}
use Rattle.std.proofs.Math.Option.{Option, none, some}
use Rattle.basics.specs.Sizes.{frame_numbers}
use Rattle.link.specs.Link.{Packet, Piece, Queue}

pub record Line : Type 0 where
  pub packet : Packet
  pub from : ℕ
  pub to : ℕ

-- A packet whose first piece was sent and whose last was not: the frame with its first piece, and its bytes so far.
pub record Begun : Type 0 where
  pub from : ℕ
  pub sent : List ℕ

-- What pieces add to the ledger, and the packet that is begun after them, if one is.
pub record Traced : Type 0 where
  pub lines : List Line
  pub begun : Option Begun

-- a piece of frame i: the packet that is begun before it; is it the first, is it the last of its packet; its bytes
abbrev pub trace_piece : ℕ → Option Begun → Bool → Bool → List ℕ → Traced
trace_piece i begun true true bytes = record { lines = record { packet = bytes; from = i; to = i } ∷ []; begun = none }
trace_piece i begun true false bytes = record { lines = []; begun = some (record { from = i; sent = bytes }) }
trace_piece i none false last bytes = record { lines = []; begun = none }
trace_piece i (some begun) false true bytes =
    record { lines = record { packet = begun.sent ++ bytes; from = begun.from; to = i } ∷ []; begun = none }
trace_piece i (some begun) false false bytes = record { lines = []; begun = some (record { from = begun.from; sent = begun.sent ++ bytes }) }

abbrev pub trace_then : Traced → Traced → Traced
trace_then before after = record { lines = before.lines ++ after.lines; begun = after.begun }

-- all pieces of frame i
abbrev pub trace_frame : ℕ → Option Begun → List Piece → Traced
trace_frame i begun [] = record { lines = []; begun = begun }
trace_frame i begun (piece ∷ pieces) =
    let traced = trace_piece i begun piece.first piece.last piece.bytes in
    trace_then traced (trace_frame i traced.begun pieces)

-- all frames, the first of them frame i
abbrev pub trace : ℕ → Option Begun → List (List Piece) → Traced
trace i begun [] = record { lines = []; begun = begun }
trace i begun (frame ∷ frames) = trace_then (trace_frame i begun frame) (trace (suc i) (trace_frame i begun frame).begun frames)

-- the ledger of the frames sent, from frame 0 on
abbrev pub ledger : List (List Piece) → List Line
ledger frames = (trace 0 none frames).lines

-- The packets that are not wholly sent: one that is begun (its bytes sent, then its rest), and those that wait.
abbrev pub sent_of : Option Begun → List ℕ
sent_of none = []
sent_of (some begun) = begun.sent

abbrev pub unsent_from : Option Begun → Option (List ℕ) → List Packet → List Packet
unsent_from begun none packets = packets
unsent_from begun (some rest) packets = (sent_of begun ++ rest) ∷ packets

abbrev pub unsent : List (List Piece) → Queue → List Packet
unsent frames queue = unsent_from (trace 0 none frames).begun queue.rest queue.waiting

-- ---------------------------------------------------------------- the channel; mark i is the mark of frame i

pub data Mark : Type 0 where
  lost accepted : Mark

module _ {ℓ} {A : Type ℓ} where
  abbrev pub by_mark : Mark → A → A → A
  by_mark lost ifLost ifAccepted = ifLost
  by_mark accepted ifLost ifAccepted = ifAccepted

-- whether each frame from `from` on, up to the one before frame i, was accepted (as a statement: `unbroken_iff` in proofs/Marks.antt)
abbrev pub unbroken : (ℕ → Mark) → ℕ → ℕ → Bool
unbroken mark from zero = true
unbroken mark from (suc i) = (ltb i from || by_mark (mark i) false true) && unbroken mark from i

-- The packets of a ledger that are to come out: every frame from the one with the first piece to the one with the last was accepted.
abbrev pub came : (ℕ → Mark) → List Line → List Packet
came mark [] = []
came mark (line ∷ lines) = cond (unbroken mark line.from (suc line.to)) (line.packet ∷ came mark lines) (came mark lines)

-- the number of frames lost in a row just before frame i; and whether a frame before frame i was accepted
abbrev pub lost_before : (ℕ → Mark) → ℕ → ℕ
lost_before mark zero = 0
lost_before mark (suc i) = by_mark (mark i) (suc (lost_before mark i)) 0

abbrev pub any_before : (ℕ → Mark) → ℕ → Bool
any_before mark zero = false
any_before mark (suc i) = by_mark (mark i) (any_before mark i) true

-- how many frames were lost between frame i and the accepted one before it; 0 if there is none (`gap_is`, `gap_first` in proofs/Marks.antt)
abbrev pub gap : (ℕ → Mark) → ℕ → ℕ
gap mark i = cond (any_before mark i) (lost_before mark i) 0

-- the gaps before the accepted ones among n frames, the first of them frame i
abbrev pub gaps : (ℕ → Mark) → ℕ → ℕ → List ℕ
gaps mark i zero = []
gaps mark i (suc n) = by_mark (mark i) (gaps mark (suc i) n) (gap mark i ∷ gaps mark (suc i) n)

-- The limit on lost frames: at most 65,535 between two accepted frames with none accepted between them.
abbrev pub Limit : (ℕ → Mark) → Type 0
Limit mark =
    (a b : ℕ) → a < b → mark a ≡ accepted → mark b ≡ accepted
    → ((j : ℕ) → a < j → j < b → mark j ≡ lost) → b - a - 1 < frame_numbers
