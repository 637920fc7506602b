-- DEMAND 3: every frame that arrives is accepted; a packet comes out exactly if every frame from its first piece to its last was accepted, unaltered, once
-- and in its turn; and the frames lost are counted. It is said of what was put, what was sent and what was answered, so that one record serves for
-- frames that are lists of pieces and for the calls themselves (crate demands).
use Rattle.std.specs.Prelude.{◌≡◌, List, [], ◌∷◌, ◌++◌, map, ℕ, length}
use Rattle.link.specs.Link.{Packet, Piece, Queue, Answer, taken, refused}
use Rattle.link.specs.Ledger.{Line, ledger, unsent, Mark, came, gaps}

abbrev pub AllTaken : List Answer → Type 0
AllTaken [] = Unit {0}
AllTaken (taken count packets ∷ answers) = AllTaken answers
AllTaken (refused number ∷ answers) = ⊥

-- the packets that the answers give out, and the missed counts that they give, in order
abbrev pub packets_of : List Answer → List Packet
packets_of [] = []
packets_of (taken count packets ∷ answers) = packets ++ packets_of answers
packets_of (refused number ∷ answers) = packets_of answers

abbrev pub missed_of : List Answer → List ℕ
missed_of [] = []
missed_of (taken count packets ∷ answers) = count ∷ missed_of answers
missed_of (refused number ∷ answers) = missed_of answers

abbrev pub packet_of : Line → Packet
packet_of line = line.packet

-- Packets were put; frames were sent, from frame 0 on; a queue was left; mark i tells whether frame i was accepted; the answers are those to the frames
-- that arrived as they were sent, in order.
pub record Demand3 (puts : List Packet) (frames : List (List Piece)) (left : Queue) (mark : ℕ → Mark) (answers : List Answer) : Type 0 where
  -- each frame that arrives is accepted ..
  pub all_accepted : AllTaken answers
  -- .. with the true number of frames lost since the accepted one before;
  pub counted : missed_of answers ≡ gaps mark 0 (length frames)
  -- what comes out is, in order, each packet of the ledger with all frames from its first piece's to its last piece's accepted;
  pub exactly : packets_of answers ≡ came mark (ledger frames)
  -- the ledger has the packets put, in the order in which they were put, once each and unaltered, up to those not wholly sent
  pub in_order : map packet_of (ledger frames) ++ unsent frames left ≡ puts
