-- What follows from demand 2: each clause, and each way of one that says "exactly", is used to conclude something plain, so that none can go, or be halved,
-- unseen.
use mathlib.Core.Path.{◌≡◌, refl, sym, ap, ◌∙◌, subst}
use mathlib.Core.Bool.{Bool, true, false, cond, false≢true}
use mathlib.Core.Option.{none, some}
use mathlib.Core.List.{List, [], ◌∷◌}
use Prim.Native.Nat.{ℕ, ◌+◌, ◌*◌, ◌/◌, ◌%◌, ◌≤◌, ◌<◌}
use native.Mathlib.Nat.{mul-zero, mul-one, add-zero}
use native.Mathlib.Omega.{arith}
use lib.Dec.{ltb}
use lib.ListN.{length, get_or, take}
use borrow.Author.Tests.{eq-eqb}
use Rattle.basics.specs.Lists.{zeros, Bytes, entries}
use Rattle.basics.specs.Sizes.{queue_size}
use Rattle.basics.specs.Numbers.{digit, number}
use Rattle.basics.proofs.Lists.{zeros_length, zeros_bytes}
use Rattle.std.specs.Prelude.{Result, Ok}
use Rattle.refusals.specs.Table.{first_of}
use Rattle.refusals.specs.declared.Refusal.{Refusal}
use Rattle.lent.proofs.Written.{written_whole}
use Rattle.scrambler.specs.Scrambler.{taps_allowed, sum_below, bit, key_byte, scrambled}
use Rattle.scrambler.proofs.Stages.{sum_ext}
use Rattle.header.specs.Header.{ReservedBits, all_ones, header_bytes, header_bytes_with, fields_fit}
use Rattle.header.specs.Calls.{code_refusal}
use Rattle.header.specs.declared.Fields.{Fields}
use Rattle.header.specs.declared.FrameKind.{FrameKind}
use Rattle.header.specs.declared.FrameKind.TheVariants.{Idle, Data}
use Rattle.header.specs.declared.Header.{Header}
use Rattle.header_reading.specs.Reading.{header_of, reserved_in, read_refusal, read_header}
use Rattle.frame.specs.Frame.{frame_bytes, frame_bytes_with}
use Rattle.frame.proofs.Laws.{frame_length}
use Rattle.opening.specs.Opening.{open_refusal, opened_reserved, OpenOutcome}
use Rattle.opening.specs.NearFrame.{NearFrame}
use Rattle.opening.specs.declared.Opened.{Opened}
use Rattle.opening.proofs.NearFrame.{near_own}
use Rattle.nearest.proofs.Nearness.{differences_self}
use Rattle.link.specs.Link.{Piece, Queue, empty}
use Rattle.link.specs.Store.{layout}
use Rattle.marks.specs.Queue.{is_ring_whole, waiting_in, packet_count, byte_count}
use Rattle.packing.specs.Rules.{Allowed}
use Rattle.packing.specs.Filling.{fill_waiting}
use Rattle.packing.specs.Records.{read}
use Rattle.packing.proofs.Bench.{area_allowed}
use Rattle.sender.specs.Put.{fresh_sender}
use Rattle.sender.specs.Waiting.{counted, WaitingOutcome}
use Rattle.sender.proofs.Counts.{whole_counted}
use Rattle.sender.specs.declared.Sender.{Sender}
use Rattle.sender.specs.declared.Counted.{Counted}
use Rattle.sending.specs.Next.{NextOutcome}
use Rattle.receiver.specs.Applying.{fresh_receiver, apply_refusal, ApplyOutcome}
use Rattle.receiver.specs.declared.Receiver.{Receiver}
use Rattle.receiver.specs.declared.Applied.{Applied}
use Rattle.list.specs.Entries.{packets_read}
use Rattle.demands.specs.Cases.{idle}
use Rattle.demands.specs.Demand2.{HoldsQueue}
use Rattle.demands.proofs.Demand2.{demand2_holds}

-- ---- the header

-- the p case's header is read back from its bytes, and from those of a maker that clears every reserved bit
pub idle_back : read_header (header_bytes idle) ≡ Ok idle
unfolding fields_fit
idle_back = demand2_holds.header_back all_ones idle refl

abbrev pub all_cleared : ReservedBits
all_cleared = record { d4 = 0; d10 = 0; d11 = 0 }

pub cleared_back : read_header (header_bytes_with all_cleared idle) ≡ Ok idle
unfolding fields_fit
cleared_back = demand2_holds.header_back all_cleared idle refl

-- accepted bytes that hold the same header and the same reserved bits are the same bytes; and what was read may be coded again
pub one_coding : (a b : List ℕ) → Bytes a → Bytes b → read_refusal a ≡ 0 → read_refusal b ≡ 0
    → header_of a ≡ header_of b → reserved_in a ≡ reserved_in b → a ≡ b
one_coding a b are-a are-b za zb e bits =
    sym (demand2_holds.header_again a are-a za).0 ∙ (λ j. header_bytes_with (bits j) (e j)) ∙ (demand2_holds.header_again b are-b zb).0

pub coded_again : (a out : List ℕ) → Bytes a → read_refusal a ≡ 0 → length out ≡ 16 → code_refusal (header_of a) out ≡ 0
unfolding code_refusal first_of
coded_again a out are_bytes z long = rw (eq-eqb (length out) 16 long, (demand2_holds.header_again a are_bytes z).1)

-- bytes with ones are coded again as they were, and bytes with a cleared bit are not
pub ones_again : (a : List ℕ) → Bytes a → read_refusal a ≡ 0 → reserved_in a ≡ all_ones → header_bytes (header_of a) ≡ a
ones_again a are_bytes z ones = (demand2_holds.header_same a are_bytes z).1 ones

pub cleared_differs : (a : List ℕ) → Bytes a → read_refusal a ≡ 0 → (reserved_in a ≡ all_ones → ⊥) → header_bytes (header_of a) ≡ a → ⊥
cleared_differs a are_bytes z cleared same = cleared ((demand2_holds.header_same a are_bytes z).0 same)

-- ---- the scrambler

-- s(25) is the sum of the taps 0, 1 and 2, modulo 2
pub bit_25 : (taps : ℕ) → bit taps 25 ≡ (digit 0 taps + (digit 1 taps + digit 2 taps)) % 2
unfolding sum_below
bit_25 taps =
    let bits = demand2_holds.scrambler taps in
    bits.recurrence 0
    ∙ ap (λ (x : ℕ). x % 2)
    (sum_ext 25 (λ i. digit i taps * bit taps i) (λ i. digit i taps * cond (ltb i 3) 1 0) (λ i h. ap (λ (x : ℕ). digit i taps * x) (bits.first_bits i h)))
    ∙ ap (λ (x : ℕ). x % 2) (simp (mul-zero, mul-one, add-zero))

one_byte : (l : List ℕ) (x : ℕ) → length l ≡ 1 → get_or l 0 0 ≡ x → l ≡ x ∷ []
one_byte [] x long e = absurd (omega arith)
one_byte (a ∷ []) x long e = ap (λ (b : ℕ). b ∷ []) e
one_byte (a ∷ b ∷ l) x long e = absurd (omega arith)

-- a first byte of 0 is sent as E0
pub first_byte : (taps : ℕ) → scrambled taps (0 ∷ []) ≡ 0xE0 ∷ []
unfolding key_byte number entries
first_byte taps =
    let bits = demand2_holds.scrambler taps in
    let at = bits.first_bits in
    one_byte (scrambled taps (0 ∷ [])) 0xE0 (bits.as_many (0 ∷ []))
    (bits.added (0 ∷ []) 0 (omega arith)
    ∙ rw (
      at 0 (omega arith),
      at 1 (omega arith),
      at 2 (omega arith),
      at 3 (omega arith),
      at 4 (omega arith),
      at 5 (omega arith),
      at 6 (omega arith),
      at 7 (omega arith),
    ))

-- ---- the queue

-- a start past the ring's end is refused, ..
pub start_inside : (queue : List ℕ) (used : ℕ) → Bytes queue → is_ring_whole queue 32768 used ≡ true → ⊥
start_inside queue used bytes e = let h = ((demand2_holds.queue_exactly queue 32768 used bytes).0 e).1.within in omega arith

nothing_waits : (queue : List ℕ) → HoldsQueue queue 0 0 empty
unfolding layout
nothing_waits queue = record { within = omega arith; most = omega arith; can_wait = (tt, tt); laid_out = refl }

-- .. a fresh sender's queue is not, whatever its bytes, and nothing waits in it
pub fresh_whole : (queue : List ℕ) → Bytes queue → is_ring_whole queue 0 0 ≡ true
fresh_whole queue bytes = (demand2_holds.queue_exactly queue 0 0 bytes).1 (empty, nothing_waits queue)

pub fresh_waits : (queue : List ℕ) → waiting_in queue 0 0 ≡ empty
fresh_waits queue = demand2_holds.queue_waits queue 0 0 empty (nothing_waits queue)

-- what `waiting` counts is the packets whose layout the used bytes are: ..
pub waiting_told : (queue : List ℕ) (sender : Sender) (waiting : Queue) → Bytes queue → length queue ≡ queue_size
    → HoldsQueue queue sender.start sender.used waiting
    → (answer : Result Counted Refusal) → WaitingOutcome queue sender answer
    → answer ≡ Ok (record { packets = packet_count waiting; bytes = byte_count waiting })
waiting_told queue sender waiting bytes size holds answer o =
    let whole = (demand2_holds.queue_exactly queue sender.start sender.used bytes).1 (waiting, holds) in
    o ∙ sym (whole_counted queue sender size whole) ∙ ap (λ (q : Queue). Ok (counted q)) (demand2_holds.queue_waits queue sender.start sender.used waiting holds)

-- .. two packets and five bytes where three bytes of one that is begun and two of another wait
pub begun_told : (queue : List ℕ) (sender : Sender) → Bytes queue → length queue ≡ queue_size
    → HoldsQueue queue sender.start sender.used (record { rest = some (1 ∷ 2 ∷ 3 ∷ []); waiting = (4 ∷ 5 ∷ []) ∷ [] })
    → (answer : Result Counted Refusal) → WaitingOutcome queue sender answer → answer ≡ Ok (record { packets = 2; bytes = 5 })
begun_told queue sender = waiting_told queue sender (record { rest = some (1 ∷ 2 ∷ 3 ∷ []); waiting = (4 ∷ 5 ∷ []) ∷ [] })

-- ---- the area

-- a queue with packet AA
abbrev one_waiting : Queue
one_waiting = record { rest = none; waiting = (0xAA ∷ []) ∷ [] }

-- packet AA in an area, the p case
abbrev packet_area : List ℕ
packet_area = 0xC0 ∷ 0x01 ∷ 0xAA ∷ zeros 1905

abbrev packet_pieces : List Piece
packet_pieces = record { first = true; last = true; bytes = 0xAA ∷ [] } ∷ []

packet_allowed : Allowed packet_area packet_pieces
unfolding fill_waiting
packet_allowed = area_allowed one_waiting (tt, ((omega arith, omega arith), tt)) refl

pub packet_read : read packet_area ≡ some packet_pieces
packet_read = (demand2_holds.area_exactly packet_area packet_pieces (omega arith, (omega arith, (omega arith, zeros_bytes 1905)))).1 packet_allowed

-- zeros are no DATA area
no_zeros : (pieces : List Piece) → Allowed (zeros 1908) pieces → ⊥
no_zeros = go
  where
    mark_above : (first last : Bool) (n : ℕ) → 1 ≤ n → n < 2048 → 0 ≡ (cond first 32768 0 + cond last 16384 0 + n) / 256 % 256
        → 0 ≡ (cond first 32768 0 + cond last 16384 0 + n) % 256 → ⊥
    mark_above true true n low high x y = omega arith
    mark_above true false n low high x y = omega arith
    mark_above false true n low high x y = omega arith
    mark_above false false n low high x y = omega arith

    go : (pieces : List Piece) → Allowed (zeros 1908) pieces → ⊥
    go [] a = let h = a.present in omega arith
    go (piece ∷ pieces) a =
        let size = a.lengths [] pieces piece refl in
        mark_above piece.first piece.last (length piece.bytes) size.0 size.1
        (ap (λ (l : List ℕ). get_or l 0 0) a.laid) (ap (λ (l : List ℕ). get_or l 1 0) a.laid)

pub zeros_unread : (pieces : List Piece) → read (zeros 1908) ≡ some pieces → ⊥
zeros_unread pieces e = no_zeros pieces ((demand2_holds.area_exactly (zeros 1908) pieces (zeros_bytes 1908)).0 e)

-- ---- the frame

-- an IDLE frame that is built, whatever its reserved bits, is opened to its header, and no byte of it is wrong
pub idle_opened : (taps : ℕ) (reserved : ReservedBits) (before : List ℕ) (answer : Result Opened Refusal) (after : List ℕ)
    → taps_allowed taps ≡ true → 1908 ≤ length before → OpenOutcome taps (frame_bytes_with taps reserved idle (zeros 1908)) before answer after
    → answer ≡ Ok (record { header = idle; repaired = 0 })
unfolding fields_fit
idle_opened taps reserved before answer after allowed room o =
    let frame = frame_bytes_with taps reserved idle (zeros 1908) in
    (demand2_holds.frame_back taps reserved idle (zeros 1908) frame before answer after allowed refl (zeros_length 1908) (zeros_bytes 1908) room
    (near_own frame (frame_length reserved idle taps (zeros 1908) (zeros_length 1908))) o).0
    ∙ ap (λ (n : ℕ). Ok (record { header = idle; repaired = n })) (differences_self frame)

-- two accepted frames that are opened to one header and one area, and have the same reserved bits, are near one frame
pub one_frame : (taps : ℕ) (a b before : List ℕ) (header : Header) (n m : ℕ) (after : List ℕ) → length before ≡ 1908
    → OpenOutcome taps a before (Ok (record { header = header; repaired = n })) after
    → OpenOutcome taps b before (Ok (record { header = header; repaired = m })) after
    → opened_reserved taps a ≡ opened_reserved taps b → (frame : List ℕ) × (NearFrame a frame × NearFrame b frame)
one_frame taps a b before header n m after long oa ob bits =
    let fa = demand2_holds.frame_again taps a before (record { header = header; repaired = n }) after oa in
    let fb = demand2_holds.frame_again taps b before (record { header = header; repaired = m }) after ob in
    let area-a : after ≡ fa.0 = fa.1.4 ∙ written_whole before fa.0 (fa.1.2 ∙ sym long) in
    let area-b : after ≡ fb.0 = fb.1.4 ∙ written_whole before fb.0 (fb.1.2 ∙ sym long) in
    let same : frame_bytes_with taps (opened_reserved taps b) header fb.0 ≡ frame_bytes_with taps (opened_reserved taps a) header fa.0 =
    λ j. frame_bytes_with taps (sym bits j) header ((sym area-b ∙ area-a) j) in
    (frame_bytes_with taps (opened_reserved taps a) header fa.0, (fa.1.0, subst (NearFrame b) same fb.1.0))

-- ---- next_frame

-- the header of a first frame
abbrev pub first_header : FrameKind → Fields → Header
first_header kind fields = record { txfn = record { 0 = 0 }; kind = kind; fields = fields }

module _ (taps : ℕ) (fields : Fields) (sender : Sender) (queue out : List ℕ) (kind : FrameKind) (queue' out' : List ℕ) where
  -- a fresh sender sends IDLE with zeros, ..
  pub idle_sent : NextOutcome taps fields fresh_sender queue out (Ok (record { sender = sender; kind = kind })) queue' out'
      → (kind ≡ Idle) × (take 2081 out' ≡ frame_bytes taps (first_header Idle fields) (zeros 1908))
  idle_sent o =
      let s = demand2_holds.sends taps fields fresh_sender queue out (record { sender = sender; kind = kind }) queue' out' (omega arith) o in
      let i = s.idle_frame (rw (fresh_waits queue) refl) in
      (i.0, s.coded ∙ λ j. frame_bytes taps (first_header (i.0 j) fields) (i.1 j))

  -- .. and one with packet AA in its queue DATA with C0 01 AA
  pub packet_sent : (used : ℕ) → waiting_in queue 0 used ≡ one_waiting
      → NextOutcome taps fields (record { start = 0; used = used; next = record { 0 = 0 } }) queue out (Ok (record { sender = sender; kind = kind })) queue' out'
      → (kind ≡ Data) × (take 2081 out' ≡ frame_bytes taps (first_header Data fields) packet_area)
  unfolding fill_waiting
  packet_sent used waits o =
      let before : Sender = record { start = 0; used = used; next = record { 0 = 0 } } in
      let s = rw waits at (demand2_holds.sends taps fields before queue out (record { sender = sender; kind = kind }) queue' out' (omega arith) o) in
      let d = s.data_frame refl in
      (d.0, s.coded ∙ λ j. frame_bytes taps (first_header (d.0 j) fields) (d.1.laid j))

-- ---- open

-- zeros are no frame, ..
pub zeros_refused : (taps : ℕ) (buffer : List ℕ) → open_refusal taps (zeros 2081) buffer ≡ 0 → ⊥
unfolding frame_bytes_with
zeros_refused taps buffer z =
    let f = ((demand2_holds.opens_exactly taps (zeros 2081) buffer).0 z).2 in
    let begins = ap (λ (l : List ℕ). get_or l 0 0) f.near.preamble_same in
    omega arith

-- .. and what a fresh sender sends is opened, and so is the same frame with any reserved bits
pub idle_accepted : (taps : ℕ) (reserved : ReservedBits) (fields : Fields) (buffer : List ℕ) → taps_allowed taps ≡ true → fields_fit fields ≡ true
    → 1908 ≤ length buffer → open_refusal taps (frame_bytes_with taps reserved (first_header Idle fields) (zeros 1908)) buffer ≡ 0
idle_accepted taps reserved fields buffer allowed fit room =
    (demand2_holds.opens_exactly taps (frame_bytes_with taps reserved (first_header Idle fields) (zeros 1908)) buffer).1 (
      allowed,
      room,
      record {
        reserved = reserved;
        header = first_header Idle fields;
        area = zeros 1908;
        near = near_own (frame_bytes_with taps reserved (first_header Idle fields) (zeros 1908))
            (frame_length reserved (first_header Idle fields) taps (zeros 1908) (zeros_length 1908));
        may_be_sent = fit;
        area_sized = zeros_length 1908;
        area_bytes = zeros_bytes 1908;
      },
    )

-- ---- apply

module _ (fields : Fields) (hold list : List ℕ) where
  -- an IDLE frame is applied whatever its area, ..
  pub idle_applied : (area : List ℕ) → Bytes area → length area ≡ 1908 → length hold ≡ 9000 → 10907 ≤ length list → fields_fit fields ≡ true
      → apply_refusal (first_header Idle fields) area fresh_receiver hold list ≡ 0
  idle_applied area bytes long hold_sized list_sized fit =
      (demand2_holds.applies_exactly (first_header Idle fields) area fresh_receiver hold list bytes).1 (record {
        area_sized = long;
        hold_sized = hold_sized;
        list_sized = list_sized;
        held = omega arith;
        may_be_sent = fit;
        pieces = [];
        has = record { data_frame = λ e. absurd (false≢true e); other_frame = λ e. refl };
        joined = refl;
      })

  -- .. a DATA frame with zeros is not, ..
  pub zeros_unapplied : (receiver : Receiver) → apply_refusal (first_header Data fields) (zeros 1908) receiver hold list ≡ 0 → ⊥
  zeros_unapplied receiver z =
      let f = (demand2_holds.applies_exactly (first_header Data fields) (zeros 1908) receiver hold list (zeros_bytes 1908)).0 z in
      no_zeros f.pieces (f.has.data_frame refl)

  -- .. and packet AA in the area comes out as packet AA
  pub packet_listed : (applied : Applied) (hold' list' : List ℕ)
      → ApplyOutcome (first_header Data fields) packet_area fresh_receiver hold list (Ok applied) hold' list'
      → (packets_read (take applied.listed list') ≡ some ((0xAA ∷ []) ∷ [])) × (applied.packets ≡ 1)
  packet_listed =
      demand2_holds.list_back (first_header Data fields) packet_area fresh_receiver hold list packet_pieces
      (record { data_frame = λ e. packet_allowed; other_frame = λ e. absurd (false≢true (sym e)) })
