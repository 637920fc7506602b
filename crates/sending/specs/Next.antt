-- Building the next frame (01, "Next frame"; 02, M-105), for all inputs.
use Rattle.std.specs.Prelude.{◌≡◌, cond, ◌&&◌, List, [], ◌∷◌, ℕ, eqb, leb, length, Result}
use Rattle.basics.specs.Sizes.{area_size, frame_size, queue_size}
use Rattle.refusals.specs.Numbers.{answer_by}
use Rattle.refusals.specs.Table.{Row, ◌unless◌, first_of, by}
use Rattle.refusals.specs.declared.Refusal.{Refusal}
use Rattle.lent.specs.Written.{written}
use Rattle.link.specs.Link.{Queue, busy}
use Rattle.link.specs.Store.{layout}
use Rattle.packing.specs.Rules.{area_of}
use Rattle.packing.specs.Filling.{fill}
use Rattle.scrambler.specs.Scrambler.{taps_allowed}
use Rattle.basics.specs.Counts.{next_txfn}
use Rattle.header.specs.Header.{fields_fit}
use Rattle.header.specs.declared.Fields.{Fields}
use Rattle.header.specs.declared.FrameKind.{FrameKind}
use Rattle.header.specs.declared.FrameKind.TheVariants.{Idle, Data}
use Rattle.header.specs.declared.Header.{Header}
use Rattle.frame.specs.Frame.{frame_bytes}
use Rattle.ring.specs.Ring.{ring_written}
use Rattle.marks.specs.Queue.{is_ring_whole, waiting_in, start_after}
use Rattle.sender.specs.declared.Sender.{Sender}
use Rattle.sending.specs.declared.Sent.{Sent}

-- ---------------------------------------------------------------- the frame for a queue

-- DATA where a byte waits, otherwise IDLE
abbrev pub kind_for : Queue → FrameKind
kind_for queue = cond (busy queue) Data Idle

-- its records, then zeros; with nothing to send, zeros only (`area_idle` in crates/packing/proofs/Bench.antt)
abbrev pub area_for : Queue → List ℕ
area_for queue = area_of (fill area_size queue).pieces

-- TXFN is the sender's own count
abbrev pub header_for : Sender → Fields → Queue → Header
header_for sender fields queue = record { txfn = sender.next; kind = kind_for queue; fields = fields }

-- what remains
abbrev pub left_in : Queue → Queue
left_in queue = (fill area_size queue).left

-- the sender after a frame: what was sent is freed, so that the start moves on, and TXFN steps for every type
abbrev pub sender_after : Sender → Queue → Sender
sender_after sender queue =
    let used = length (layout (left_in queue)) in
    record { start = start_after sender.start sender.used used; used = used; next = record { 0 = next_txfn sender.next.0 } }

-- ---------------------------------------------------------------- the call

-- The refusals of `next_frame` (01, "Refusal numbers"). 1: taps at or above 2^25, or tap 0 clear. 2: the queue is not 32,768 bytes, or out is under 2,081.
-- 3: the queue is not whole. 6: a field to send is too large for its bits or against its rule.
abbrev pub next_table : ℕ → Fields → ℕ → ℕ → List ℕ → List ℕ → List Row
next_table taps fields start used queue out =
    1 unless taps_allowed taps
    ∷ 2 unless (eqb (length queue) queue_size && leb frame_size (length out))
    ∷ 3 unless is_ring_whole queue start used
    ∷ 6 unless fields_fit fields
    ∷ []

unfoldable pub next_refusal : ℕ → Fields → ℕ → ℕ → List ℕ → List ℕ → ℕ
next_refusal taps fields start used queue out = first_of (next_table taps fields start used queue out)

module _ (taps : ℕ) (fields : Fields) (sender : Sender) (queue out : List ℕ) where
  abbrev number : ℕ
  number = next_refusal taps fields sender.start sender.used queue out

  abbrev waiting : Queue
  waiting = waiting_in queue sender.start sender.used

  -- The whole outcome of `next_frame`: the answer, and the bytes of the ring and of out. The ring holds what remains from its new start on, and the frame is
  -- written to the front of out; all other bytes keep their values. What remains stood there before, but for a cut packet's new mark: `next_writes` in
  -- proofs/Ring.antt.
  pub record NextOutcome (r : Result Sent Refusal) (queue' out' : List ℕ) : Type 0 where
    pub answer : r ≡ answer_by number (record { sender = sender_after sender waiting; kind = kind_for waiting })
    pub bytes : queue' ≡ by number (ring_written queue (sender_after sender waiting).start 0 (layout (left_in waiting))) queue
    pub frame : out' ≡ by number (written out 0 (frame_bytes taps (header_for sender fields waiting) (area_for waiting))) out
