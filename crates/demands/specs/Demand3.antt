-- DEMAND 3, over the calls themselves. A history has the calls made to a sender and what became of each frame that it sent; with each call stand what it was
-- given, what it answered and the lent bytes that it left. `SenderCalls` and `ReceiverCalls` ask of each call that it met its contract, the record that its
-- `ensures` names, in the state and with the bytes that the call before it left. So whatever the functions do is in a history, and no model of them stands
-- beside. `demand3_holds` in proofs/Demand3.antt: every history keeps the promise.
use Rattle.std.specs.Prelude.{Result, Ok, Err, ◌≡◌, true, List, [], ◌∷◌, map, ℕ, zero, suc, ◌≤◌, length, take}
use Rattle.std.proofs.Math.Option.{Option, none, some}
use Rattle.basics.specs.Lists.{Bytes}
use Rattle.basics.specs.Sizes.{area_size, frame_size, hold_size, list_size}
use Rattle.refusals.specs.Numbers.{number_of}
use Rattle.refusals.specs.declared.Refusal.{Refusal}
use Rattle.scrambler.specs.Scrambler.{taps_allowed}
use Rattle.header.specs.declared.Fields.{Fields}
use Rattle.opening.specs.Opening.{opened_header, opened_area, OpenOutcome}
use Rattle.opening.specs.NearFrame.{NearFrame}
use Rattle.opening.specs.declared.Opened.{Opened}
use Rattle.link.specs.Link.{Packet, Piece, Queue, Answer, taken, refused}
use Rattle.link.specs.Ledger.{Mark, lost, accepted, Limit}
use Rattle.link.specs.Demand3.{Demand3}
use Rattle.marks.specs.Queue.{waiting_in}
use Rattle.sender.specs.Put.{fresh_sender, PutOutcome}
use Rattle.sending.specs.Next.{NextOutcome}
use Rattle.sender.specs.declared.Sender.{Sender}
use Rattle.sending.specs.declared.Sent.{Sent}
use Rattle.receiver.specs.Applying.{fresh_receiver, pieces_of, or_none, ApplyOutcome, receiver_after}
use Rattle.receiver.specs.declared.Receiver.{Receiver}
use Rattle.receiver.specs.declared.Applied.{Applied}
use Rattle.list.specs.Entries.{packets_read}

-- ---------------------------------------------------------------- the sender's calls, refused ones among them

-- what was given beside the sender's state and its queue; the answer; the bytes of the queue and of the frame's buffer after the call
pub data SenderCall : Type 0 where
  call_put : (packet : List ℕ) (answer : Result Sender Refusal) (queue : List ℕ) → SenderCall
  call_next : (fields : Fields) (out : List ℕ) (answer : Result Sent Refusal) (queue after : List ℕ) → SenderCall

-- the state for the next call: a refusal brings no new one
abbrev pub put_leaves : Sender → Result Sender Refusal → Sender
put_leaves sender (Ok after) = after
put_leaves sender (Err refusal) = sender

abbrev pub next_leaves : Sender → Result Sent Refusal → Sender
next_leaves sender (Ok sent) = sent.sender
next_leaves sender (Err refusal) = sender

-- each call meets its contract, given the state and the queue that the call before it left; a packet is bytes, as any slice of u8 is
abbrev pub SenderCalls : ℕ → Sender → List ℕ → List SenderCall → Type 0
SenderCalls taps sender queue [] = Unit {0}
SenderCalls taps sender queue (call_put packet answer left ∷ calls) =
    Bytes packet × PutOutcome queue sender packet answer left × SenderCalls taps (put_leaves sender answer) left calls
SenderCalls taps sender queue (call_next fields out answer left after ∷ calls) =
    NextOutcome taps fields sender queue out answer left after × SenderCalls taps (next_leaves sender answer) left calls

-- the packets that were taken
abbrev pub packets_put : List SenderCall → List Packet
packets_put [] = []
packets_put (call_put packet (Ok after) queue ∷ calls) = packet ∷ packets_put calls
packets_put (call_put packet (Err refusal) queue ∷ calls) = packets_put calls
packets_put (call_next fields out answer queue after ∷ calls) = packets_put calls

-- the frames that were sent: 2,081 bytes at the front of each call's buffer
abbrev pub frames_sent : List SenderCall → List (List ℕ)
frames_sent [] = []
frames_sent (call_put packet answer queue ∷ calls) = frames_sent calls
frames_sent (call_next fields out (Ok sent) queue after ∷ calls) = take frame_size after ∷ frames_sent calls
frames_sent (call_next fields out (Err refusal) queue after ∷ calls) = frames_sent calls

-- what waits in the queue after all calls
abbrev pub queue_left : Sender → List ℕ → List SenderCall → Queue
queue_left sender queue [] = waiting_in queue sender.start sender.used
queue_left sender queue (call_put packet answer left ∷ calls) = queue_left (put_leaves sender answer) left calls
queue_left sender queue (call_next fields out answer left after ∷ calls) = queue_left (next_leaves sender answer) left calls

-- the pieces of packets that a frame carries, read off its bytes; the ledger of crate link is read off these
abbrev pub pieces_carried : ℕ → List ℕ → List Piece
pieces_carried taps frame = or_none (pieces_of (opened_header taps frame).kind (opened_area taps frame))

-- ---------------------------------------------------------------- what becomes of a frame, and the receiver's calls

-- The two calls that a frame is given to (02, M-106): the bytes lent for its area, before and after `open`, and what that answered; the list's buffer; what
-- came of both; the bytes of the hold and of the list after them.
pub record BothCalls : Type 0 where
  pub area : List ℕ
  pub opened : Result Opened Refusal
  pub area' : List ℕ
  pub list : List ℕ
  pub answer : Result Applied Refusal
  pub hold' : List ℕ
  pub list' : List ℕ

-- what was opened is applied, once and as opened; where `open` refused, that refusal stands, and nothing is applied
abbrev pub AppliedAs : Result Opened Refusal → List ℕ → Receiver → List ℕ → List ℕ → Result Applied Refusal → List ℕ → List ℕ → Type 0
AppliedAs (Ok opened) area receiver hold list answer hold' list' = ApplyOutcome opened.header area receiver hold list answer hold' list'
AppliedAs (Err refusal) area receiver hold list answer hold' list' =
    (answer ≡ Err refusal) × (hold' ≡ hold) × (list' ≡ list)

-- both meet their contracts, one after the other; the caller cuts the area to its 1,908 bytes
abbrev pub Receives : ℕ → List ℕ → Receiver → List ℕ → BothCalls → Type 0
Receives taps frame receiver hold both =
    OpenOutcome taps frame both.area both.opened both.area'
    × AppliedAs both.opened (take area_size both.area') receiver hold both.list both.answer both.hold' both.list'

-- It is missing; or it comes, as it was sent or with at most 8 wrong bytes in the header and in each payload word (02, M-101); or it comes damaged, as any
-- other bytes, and is refused by the one call or the other.
pub data Fate : Type 0 where
  missing : Fate
  arrives : (came : List ℕ) (both : BothCalls) → Fate
  damaged : (other : List ℕ) (refusal : Refusal) (both : BothCalls) → Fate

-- The frames come in the order in which they were sent, once each, and nothing else comes. Each is received before the next, in the state and with the hold
-- that the one before it left; one that comes near what was sent, with any buffers of the listed sizes for area and list. Frames past the end of the fates
-- have not come yet.
abbrev pub ReceiverCalls : ℕ → Receiver → List ℕ → List Fate → List (List ℕ) → Type 0
ReceiverCalls taps receiver hold [] frames = Unit {0}
ReceiverCalls taps receiver hold (fate ∷ fates) [] = ⊥
ReceiverCalls taps receiver hold (missing ∷ fates) (frame ∷ frames) = ReceiverCalls taps receiver hold fates frames
ReceiverCalls taps receiver hold (arrives came both ∷ fates) (frame ∷ frames) =
    NearFrame came frame × (area_size ≤ length both.area) × (list_size ≤ length both.list) × Receives taps came receiver hold both
    × ReceiverCalls taps (receiver_after receiver both.answer) both.hold' fates frames
ReceiverCalls taps receiver hold (damaged other refusal both ∷ fates) (frame ∷ frames) =
    Receives taps other receiver hold both × (both.answer ≡ Err refusal) × ReceiverCalls taps receiver both.hold' fates frames

-- whether each frame was accepted: mark i is the mark of frame i
abbrev pub mark_of : Fate → Mark
mark_of missing = lost
mark_of (arrives came both) = accepted
mark_of (damaged other refusal both) = lost

abbrev pub marks : List Fate → ℕ → Mark
marks [] i = lost
marks (fate ∷ fates) zero = mark_of fate
marks (fate ∷ fates) (suc i) = marks fates i

-- What the caller learns from a frame that comes near what was sent: the missed count, and the packets that `entry` and `packet` read from the listed bytes.
-- A 16 while reading counts as a refusal, and demand 3 excludes it.
abbrev pub read_out : ℕ → Option (List Packet) → Answer
read_out missed none = refused 16
read_out missed (some packets) = taken missed packets

abbrev pub learned_from : Result Applied Refusal → List ℕ → Answer
learned_from (Ok applied) list = read_out applied.missed (packets_read (take applied.listed list))
learned_from (Err refusal) list = refused (number_of refusal)

abbrev pub learned : List Fate → List Answer
learned [] = []
learned (missing ∷ fates) = learned fates
learned (arrives came both ∷ fates) = learned_from both.answer both.list' ∷ learned fates
learned (damaged other refusal both ∷ fates) = learned fates

-- ---------------------------------------------------------------- the demand

-- what is supposed
pub record History (taps : ℕ) (queue hold : List ℕ) (calls : List SenderCall) (fates : List Fate) : Type 0 where
  -- the same allowed taps throughout;
  pub allowed : taps_allowed taps ≡ true
  -- any first contents of the lent buffers: the queue's (of another size than 32,768 it is refused by every call) and the hold's;
  pub queue_bytes : Bytes queue
  pub hold_sized : length hold ≡ hold_size
  -- calls to a fresh sender, in any order, refused ones among them, with any header fields and any frame buffers;
  pub sent : SenderCalls taps fresh_sender queue calls
  -- a fresh receiver, and what came to it;
  pub came : ReceiverCalls taps fresh_receiver hold fates (frames_sent calls)
  -- no more than 65,535 frames in a row missing or refused between two accepted ones
  pub limit : Limit (marks fates)

-- what is promised: `Demand3` in crates/link/specs/Demand3.antt, of the packets taken, the frames sent, what is left in the queue, the fates and what the
-- caller learned
abbrev pub Promise : ℕ → List ℕ → List SenderCall → List Fate → Type 0
Promise taps queue calls fates =
    Demand3 (packets_put calls) (map (pieces_carried taps) (frames_sent calls)) (queue_left fresh_sender queue calls) (marks fates) (learned fates)
