-- DEMAND 2: what is sent is bit for bit what the standard and paper 01 define; what is accepted is exactly what they allow, read back to the same fields and
-- bytes. What they define is said by `header_bytes` (the 16 bytes), `frame_bytes` (a whole frame), `Scrambles` (the scrambler's bits), `Allowed` (the packing
-- rules of an area) and `HoldsQueue` (the layout of a queue). What may arrive is the same with reserved bits of any value (`header_bytes_with`,
-- `frame_bytes_with`), since 02, M-100, and with at most 8 wrong bytes in the header and in each payload word (`NearFrame`), since 02, M-101, which are
-- repaired. `demand2_holds` in proofs/Demand2.antt is the proof.
use Rattle.std.specs.Prelude.{◌≡◌, ◌↔◌, true, false, cond, List, [], ℕ, ◌+◌, ◌*◌, ◌%◌, ◌≤◌, ◌<◌, ltb, length, get_or, take}
use Rattle.std.specs.Prelude.{Result, Ok}
use Rattle.std.proofs.Math.Option.{some}
use Rattle.std.specs.Int.Bits.{bit_xor}
use Rattle.basics.specs.Lists.{zeros, Bytes}
use Rattle.basics.specs.Sizes.{area_size, frame_size, most_held, queue_size, hold_size, list_size, frame_numbers}
use Rattle.basics.specs.Numbers.{digit}
use Rattle.lent.specs.Written.{written}
use Rattle.refusals.specs.declared.Refusal.{Refusal}
use Rattle.scrambler.specs.Scrambler.{taps_allowed, sum_below, bit, key_byte, scrambled}
use Rattle.header.specs.Header.{ReservedBits, all_ones, header_bytes, header_bytes_with, header_fits}
use Rattle.header_reading.specs.Reading.{header_of, reserved_in, read_refusal, read_header}
use Rattle.header.specs.declared.Fields.{Fields}
use Rattle.header.specs.declared.FrameKind.{FrameKind}
use Rattle.header.specs.declared.FrameKind.TheVariants.{Idle, Data}
use Rattle.header.specs.declared.Header.{Header}
use Rattle.frame.specs.Frame.{frame_bytes, frame_bytes_with}
use Rattle.nearest.specs.Near.{differences}
use Rattle.repairing.specs.NearPart.{Coded, NearPart}
use Rattle.repairing.specs.Repairing.{repair_refusal, RepairOutcome, shown_bytes}
use Rattle.opening.specs.Opening.{open_refusal, opened_reserved, OpenOutcome}
use Rattle.opening.specs.NearFrame.{NearFrame}
use Rattle.opening.specs.declared.Opened.{Opened}
use Rattle.link.specs.Link.{Piece, Queue, IsQueue, busy, on_pieces, fits}
use Rattle.link.specs.Store.{layout}
use Rattle.marks.specs.Queue.{used_in, is_ring_whole, waiting_in}
use Rattle.packing.specs.Rules.{Allowed}
use Rattle.packing.specs.Filling.{fill}
use Rattle.packing.specs.Records.{read}
use Rattle.sending.specs.Next.{NextOutcome}
use Rattle.sender.specs.declared.Sender.{Sender}
use Rattle.sending.specs.declared.Sent.{Sent}
use Rattle.receiver.specs.Applying.{is_data, held_part, apply_refusal, ApplyOutcome}
use Rattle.receiver.specs.declared.Receiver.{Receiver}
use Rattle.receiver.specs.declared.Applied.{Applied}
use Rattle.list.specs.Entries.{packets_read}

-- ---------------------------------------------------------------- the scrambler, and the queue's bytes

-- the bits s(0), s(1), .. of the paper, and that byte k of what is scrambled has s(8 k) to s(8 k + 7), `key_byte`, added
pub record Scrambles (taps : ℕ) : Type 0 where
  -- s(0) to s(2) are 1, s(3) to s(24) are 0;
  pub first_bits : (k : ℕ) → k < 25 → bit taps k ≡ cond (ltb k 3) 1 0
  -- s(k + 25) is 1 exactly when an odd number of the bits s(k + i), over all taps i that are set, are 1;
  pub recurrence : (k : ℕ) → bit taps (k + 25) ≡ sum_below 25 (λ i. digit i taps * bit taps (k + i)) % 2
  pub added : (bytes : List ℕ) (k : ℕ) → k < length bytes → get_or (scrambled taps bytes) k 0 ≡ bit_xor (get_or bytes k 0) (key_byte taps k)
  pub as_many : (bytes : List ℕ) → length (scrambled taps bytes) ≡ length bytes

-- start and count are those of a ring, and its used bytes are the layout of these packets (otherwise 3)
pub record HoldsQueue (queue : List ℕ) (start used : ℕ) (waiting : Queue) : Type 0 where
  pub within : start < queue_size
  pub most : used ≤ queue_size
  pub can_wait : IsQueue waiting
  pub laid_out : used_in queue start used ≡ layout waiting

-- ---------------------------------------------------------------- what next_frame sends, for a queue

pub record SentFrame (taps : ℕ) (fields : Fields) (sender : Sender) (waiting : Queue) (kind : FrameKind) (frame : List ℕ) : Type 0 where
  pub area : List ℕ
  -- the frame of the fields given, the sender's own number and an area, and its header may be sent;
  pub coded : frame ≡ frame_bytes taps (record { txfn = sender.next; kind = kind; fields = fields }) area
  pub may_be_sent : header_fits (record { txfn = sender.next; kind = kind; fields = fields }) ≡ true
  -- where a byte waits it is DATA, and the area is by the packing rules and has the records that `fill` takes from the queue; otherwise IDLE with zeros
  pub data_frame : busy waiting ≡ true → (kind ≡ Data) × Allowed area (fill area_size waiting).pieces
  pub idle_frame : busy waiting ≡ false → (kind ≡ Idle) × (area ≡ zeros area_size)

-- ---------------------------------------------------------------- what repair accepts

-- the 2,072 bytes behind a preamble are near these, which are coded as the standard and paper 01 define (otherwise 2, 8, 12)
pub record RepairableTo (taps : ℕ) (part sent : List ℕ) : Type 0 where
  pub part_size : length part ≡ 2072
  pub coded : Coded (scrambled taps sent)
  pub near : NearPart part sent

-- ---------------------------------------------------------------- what open accepts

-- the frame is near one that the standard and paper 01 define, but for its reserved bits, which may have any value (otherwise 2, 7 to 9, 11 to 13)
pub record Openable (taps : ℕ) (frame : List ℕ) : Type 0 where
  pub reserved : ReservedBits
  pub header : Header
  pub area : List ℕ
  pub near : NearFrame frame (frame_bytes_with taps reserved header area)
  pub may_be_sent : header_fits header ≡ true
  pub area_sized : length area ≡ area_size
  pub area_bytes : Bytes area

-- ---------------------------------------------------------------- what apply accepts

-- the pieces that a frame carries: those that the packing rules see in a DATA area, and none of another type, whatever its area
pub record HasPieces (header : Header) (area : List ℕ) (pieces : List Piece) : Type 0 where
  pub data_frame : is_data header.kind ≡ true → Allowed area pieces
  pub other_frame : is_data header.kind ≡ false → pieces ≡ []

pub record Applicable (header : Header) (area : List ℕ) (receiver : Receiver) (hold list : List ℕ) : Type 0 where
  -- what is lent has the listed sizes (otherwise 2), the held length is a receiver's (otherwise 3), and the header may be sent (otherwise 11);
  pub area_sized : length area ≡ area_size
  pub hold_sized : length hold ≡ hold_size
  pub list_sized : list_size ≤ length list
  pub held : receiver.held ≤ most_held
  pub may_be_sent : header_fits header ≡ true
  -- the area is by the packing rules (otherwise 14), and its first piece can be joined to what is held (otherwise 15)
  pub pieces : List Piece
  pub has : HasPieces header area pieces
  pub joined : fits (held_part header receiver hold) pieces ≡ true

-- ---------------------------------------------------------------- the demand

pub record Demand2 : Type 0 where
  -- the header: what is coded is read back, whatever the reserved bits; what is accepted is what would be coded of what was read, which may be sent, and of
  -- the reserved bits that came; coded as we send it, it is the same 16 bytes exactly where these were ones (02, M-100)
  pub header_back : (reserved : ReservedBits) (header : Header) → header_fits header ≡ true
      → read_header (header_bytes_with reserved header) ≡ Ok header
  pub header_again : (bytes : List ℕ) → Bytes bytes → read_refusal bytes ≡ 0
      → (header_bytes_with (reserved_in bytes) (header_of bytes) ≡ bytes) × (header_fits (header_of bytes) ≡ true)
  pub header_same : (bytes : List ℕ) → Bytes bytes → read_refusal bytes ≡ 0
      → (header_bytes (header_of bytes) ≡ bytes) ↔ (reserved_in bytes ≡ all_ones)
  -- the scrambler, for all taps
  pub scrambler : (taps : ℕ) → Scrambles taps
  -- the queue: what is not refused with 3 holds the packets that wait, and no others
  pub queue_exactly : (queue : List ℕ) (start used : ℕ) → Bytes queue
      → (is_ring_whole queue start used ≡ true) ↔ ((waiting : Queue) × HoldsQueue queue start used waiting)
  pub queue_waits : (queue : List ℕ) (start used : ℕ) (waiting : Queue) → HoldsQueue queue start used waiting → waiting_in queue start used ≡ waiting
  -- the area: the reader accepts exactly the areas by the packing rules, with the pieces that the rules see in them
  pub area_exactly : (area : List ℕ) (pieces : List Piece) → Bytes area → (read area ≡ some pieces) ↔ Allowed area pieces
  -- repair: exactly a part near a coded one is repaired, with allowed taps (otherwise 1) and room in the scratch (otherwise 2), ..
  pub repairs_exactly : (taps : ℕ) (part scratch : List ℕ)
      → (repair_refusal taps part scratch ≡ 0)
      ↔ ((taps_allowed taps ≡ true) × (2072 ≤ length scratch) × ((sent : List ℕ) × RepairableTo taps part sent))
  -- .. and to that one: it is what is shown then, and the count is of the places where the two differ
  pub repair_back : (taps : ℕ) (part sent before : List ℕ) (answer : Result ℕ Refusal) (after : List ℕ)
      → taps_allowed taps ≡ true → 2072 ≤ length before → RepairableTo taps part sent → RepairOutcome taps part before answer after
      → (answer ≡ Ok (differences part sent)) × (shown_bytes answer part after ≡ sent)
  -- the frame: what came near one that was built, whatever the reserved bits, is opened to the same header and area, and the wrong bytes are counted ..
  pub frame_back : (taps : ℕ) (reserved : ReservedBits) (header : Header) (area came before : List ℕ) (answer : Result Opened Refusal) (after : List ℕ)
      → taps_allowed taps ≡ true → header_fits header ≡ true → length area ≡ area_size → Bytes area → area_size ≤ length before
      → NearFrame came (frame_bytes_with taps reserved header area) → OpenOutcome taps came before answer after
      → (answer ≡ Ok (record { header = header; repaired = differences came (frame_bytes_with taps reserved header area) }))
      × (after ≡ written before 0 area)
  -- .. what is opened is near what would be built of the answer, whose header may be sent and whose count is of the wrong bytes, of the reserved bits as
  -- repaired and of the area written
  pub frame_again : (taps : ℕ) (frame before : List ℕ) (opened : Opened) (after : List ℕ) → OpenOutcome taps frame before (Ok opened) after
      → (area : List ℕ) × (NearFrame frame (frame_bytes_with taps (opened_reserved taps frame) opened.header area) × (header_fits opened.header ≡ true)
      × (length area ≡ area_size) × Bytes area × (after ≡ written before 0 area)
      × (opened.repaired ≡ differences frame (frame_bytes_with taps (opened_reserved taps frame) opened.header area)))
  -- .. and exactly such frames are opened, with allowed taps (otherwise 1) and room for the area (otherwise 2)
  pub opens_exactly : (taps : ℕ) (frame buffer : List ℕ)
      → (open_refusal taps frame buffer ≡ 0) ↔ ((taps_allowed taps ≡ true) × (area_size ≤ length buffer) × Openable taps frame)
  -- next_frame: what stands at the front of its buffer, for a number of 16 bits
  pub sends : (taps : ℕ) (fields : Fields) (sender : Sender) (queue out : List ℕ) (sent : Sent) (queue' out' : List ℕ)
      → sender.next.0 < frame_numbers → NextOutcome taps fields sender queue out (Ok sent) queue' out'
      → SentFrame taps fields sender (waiting_in queue sender.start sender.used) sent.kind (take frame_size out')
  -- apply: exactly what the packing and the state allow is applied, ..
  pub applies_exactly : (header : Header) (area : List ℕ) (receiver : Receiver) (hold list : List ℕ) → Bytes area
      → (apply_refusal header area receiver hold list ≡ 0) ↔ Applicable header area receiver hold list
  -- .. and the list that it writes is read back as the packets that the pieces complete
  pub list_back : (header : Header) (area : List ℕ) (receiver : Receiver) (hold list : List ℕ) (pieces : List Piece) → HasPieces header area pieces
      → (applied : Applied) (hold' list' : List ℕ) → ApplyOutcome header area receiver hold list (Ok applied) hold' list'
      → (packets_read (take applied.listed list') ≡ some (on_pieces (held_part header receiver hold) pieces).out)
      × (applied.packets ≡ length (on_pieces (held_part header receiver hold) pieces).out)
