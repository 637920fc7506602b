-- DEMAND 2 holds: the theorems of header, scrambler, queue, area and frame, what next_frame sends, and what open and apply accept.
use mathlib.Core.Path.{◌≡◌, refl, sym, ap, ◌∙◌}
use mathlib.Core.Bool.{Bool, true, false}
use mathlib.Core.Option.{some}
use mathlib.Core.List.{List, []}
use Prim.Native.Nat.{ℕ, ◌≤◌, ◌<◌}
use lib.ListN.{length, take}
use borrow.Author.Tests.{lt-ltb}
use Rattle.basics.specs.Lists.{Bytes}
use Rattle.basics.specs.Sizes.{area_size}
use Rattle.basics.proofs.Tests.{both_true}
use Rattle.std.specs.Prelude.{Result, Ok}
use Rattle.refusals.specs.Table.{first_of}
use Rattle.refusals.specs.declared.Refusal.{Refusal}
use Rattle.lent.specs.Written.{written}
use Rattle.refusals.proofs.Table.{by-zero}
use Rattle.lent.proofs.Written.{written_front}
use Rattle.scrambler.specs.Scrambler.{taps_allowed}
use Rattle.scrambler.proofs.Laws.{scrambled_length}
use Rattle.scrambler.proofs.Recurrence.{first_bits, recurrence, scrambled_byte}
use Rattle.header.specs.Header.{all_ones, header_fits, fields_fit}
use Rattle.header.specs.declared.Fields.{Fields}
use Rattle.header.specs.declared.Header.{Header}
use Rattle.header_reading.proofs.Theorems.{read_of_coded, coded_of_read, sent_of_read}
use Rattle.frame.specs.Frame.{frame_bytes, frame_bytes_with}
use Rattle.frame.proofs.Laws.{frame_length}
use Rattle.opening.specs.Opening.{open_refusal, opened_header, opened_reserved, opened_area, OpenOutcome}
use Rattle.opening.specs.NearFrame.{NearFrame}
use Rattle.opening.specs.declared.Opened.{Opened}
use Rattle.opening.proofs.Laws.{open_passed}
use Rattle.nearest.specs.Near.{differences}
use Rattle.repairing.specs.Repairing.{repaired, repair_refusal, RepairOutcome, shown_bytes}
use Rattle.repairing.proofs.Laws.{Ready, repair_passed}
use Rattle.repairing.proofs.Theorems.{repaired_is_coded, repaired_is_near, near_repaired, sent_shown}
use Rattle.opening.proofs.Built.{near_accepted}
use Rattle.opening.proofs.Accepted.{accepted_near, accepted_fits, accepted_area, accepted_bytes}
use Rattle.opening.proofs.Theorems.{open_of_near, near_of_open}
use Rattle.link.specs.Link.{Piece, Queue, on_pieces}
use Rattle.link.proofs.RoundTrip.{parse_queue}
use Rattle.marks.specs.Queue.{used_in, is_ring_whole, waiting_in}
use Rattle.marks.proofs.Parsed.{whole_parsed}
use Rattle.marks.proofs.Exactly.{whole_exactly, waiting_exactly}
use Rattle.packing.proofs.Allowed.{read_iff, read_allowed, allowed_read}
use Rattle.packing.proofs.Bench.{area_allowed, area_idle, area_length}
use Rattle.sending.specs.Next.{kind_for, area_for, header_for, sender_after, next_refusal, NextOutcome}
use Rattle.sender.specs.declared.Sender.{Sender}
use Rattle.sending.specs.declared.Sent.{Sent}
use Rattle.sending.proofs.Sending.{next_passed, sent_so}
use Rattle.receiver.specs.Applying.{is_data, pieces_of, held_part, area_table, apply_refusal, ApplyOutcome}
use Rattle.receiver.specs.declared.Receiver.{Receiver}
use Rattle.receiver.specs.declared.Applied.{Applied}
use Rattle.receiver.proofs.Tables.{read_as, area_passed, data_records, other_records}
use Rattle.receiver.proofs.Machine.{joined_pieces}
use Rattle.receiver.proofs.Laws.{apply_passed, apply_pass}
use Rattle.list.specs.Entries.{packets_read}
use Rattle.demands.specs.Demand2.{Scrambles, HoldsQueue, SentFrame, RepairableTo, Openable, HasPieces, Applicable, Demand2}
use Rattle.demands.proofs.ReadBack.{apply_read}

-- ---- the queue

module _ (queue : List ℕ) (start used : ℕ) where
  holds_so : Bytes queue → is_ring_whole queue start used ≡ true → (waiting : Queue) × HoldsQueue queue start used waiting
  holds_so bytes e =
      let h = (whole_exactly queue start used bytes).0 e in
      (h.2.0, record { within = h.0; most = h.1; can_wait = h.2.1.0; laid_out = sym h.2.1.1 })

  so_holds : Bytes queue → (waiting : Queue) × HoldsQueue queue start used waiting → is_ring_whole queue start used ≡ true
  so_holds bytes h = (whole_exactly queue start used bytes).1 (h.1.within, h.1.most, (h.0, (h.1.can_wait, sym h.1.laid_out)))

-- ---- next_frame

sends_so : (taps : ℕ) (fields : Fields) (sender : Sender) (queue out : List ℕ) (sent : Sent) (queue' out' : List ℕ) → sender.next.0 < 65536
    → NextOutcome taps fields sender queue out (Ok sent) queue' out'
    → SentFrame taps fields sender (waiting_in queue sender.start sender.used) sent.kind (take 2081 out')
sends_so taps fields sender queue out sent queue' out' small o =
    let start = sender.start in
    let used = sender.used in
    let waiting = waiting_in queue start used in
    let n = next_refusal taps fields start used queue out in
    let told = sent_so n sent.sender (sender_after sender waiting) sent.kind (kind_for waiting) o.answer in
    let passed = next_passed taps fields start used queue out told.0 in
    let is_queue = parse_queue (used_in queue start used) waiting (whole_parsed (used_in queue start used) passed.whole) in
    let header = header_for sender fields waiting in
    let fits_header : header_fits header ≡ true = both_true _ (fields_fit fields) (lt-ltb sender.next.0 65536 small) passed.fits in
    let frame : out' ≡ written out 0 (frame_bytes taps header (area_for waiting)) = o.frame ∙ by-zero n _ out told.0 in
    let size = frame_length all_ones header taps (area_for waiting) (area_length waiting is_queue) in
    rw told.2 (record {
      area = area_for waiting;
      coded = ap (take 2081) frame ∙ written_front out (frame_bytes taps header (area_for waiting)) 2081 size;
      may_be_sent = fits_header;
      data_frame = λ t. (rw t refl, area_allowed waiting is_queue t);
      idle_frame = λ t. (rw t refl, area_idle waiting t);
    })

-- ---- repair

module _ (taps : ℕ) (part : List ℕ) where
  repairable : (scratch : List ℕ) → repair_refusal taps part scratch ≡ 0
      → (taps_allowed taps ≡ true) × (2072 ≤ length scratch) × ((sent : List ℕ) × RepairableTo taps part sent)
  repairable scratch e =
      let ready = (repair_passed taps part scratch e).0 in (
        ready.allowed,
        ready.room,
        (repaired taps part, record { part_size = ready.long; coded = repaired_is_coded taps part scratch e; near = repaired_is_near taps part scratch e }),
      )

  module _ (sent scratch : List ℕ) (to : RepairableTo taps part sent) (allowed : taps_allowed taps ≡ true) (room : 2072 ≤ length scratch) where
    ready : Ready taps part scratch
    ready = record { allowed = allowed; long = to.part_size; room = room }

    sent_size : length sent ≡ 2072
    sent_size = sym (scrambled_length taps sent) ∙ to.coded.long

    repairs : repair_refusal taps part scratch ≡ 0
    repairs = near_repaired taps part sent scratch ready sent_size to.coded to.near

    shows : (answer : Result ℕ Refusal) (after : List ℕ) → RepairOutcome taps part scratch answer after
        → (answer ≡ Ok (differences part sent)) × (shown_bytes answer part after ≡ sent)
    shows = sent_shown taps part sent scratch ready sent_size to.coded to.near

-- ---- open

module _ (taps : ℕ) (frame buffer : List ℕ) where
  openable : open_refusal taps frame buffer ≡ 0 → (taps_allowed taps ≡ true) × (area_size ≤ length buffer) × Openable taps frame
  openable e =
      let passed = open_passed taps frame buffer e in
      let whole = passed.0.long in (
        passed.0.allowed,
        passed.0.room,
        record {
          reserved = opened_reserved taps frame;
          header = opened_header taps frame;
          area = opened_area taps frame;
          near = accepted_near taps frame whole passed.1;
          may_be_sent = accepted_fits taps frame whole passed.1;
          area_sized = accepted_area taps frame whole passed.1;
          area_bytes = accepted_bytes taps frame whole passed.1;
        },
      )

  opens : (taps_allowed taps ≡ true) × (area_size ≤ length buffer) × Openable taps frame → open_refusal taps frame buffer ≡ 0
  opens h =
      let f = h.2 in
      near_accepted taps f.reserved f.header f.area f.area_sized f.area_bytes frame f.near buffer h.0 f.may_be_sent h.1

-- ---- apply

some_one : (a b : List Piece) → some a ≡ some b → b ≡ a
some_one a b e = cc

-- the pieces of a frame are the records of its area
pieces_read : (header : Header) (area : List ℕ) (pieces : List Piece) → HasPieces header area pieces → pieces_of header.kind area ≡ some pieces
pieces_read header area pieces has = go (is_data header.kind) refl
  where
    go : (test : Bool) → is_data header.kind ≡ test → pieces_of header.kind area ≡ some pieces
    go true t = data_records header.kind area t ∙ allowed_read area pieces (has.data_frame t)
    go false t = other_records header.kind area t ∙ ap (λ (l : List Piece). some l) (sym (has.other_frame t))

module _ (header : Header) (area : List ℕ) (receiver : Receiver) (hold list : List ℕ) where
  abbrev part : List ℕ
  part = held_part header receiver hold

  applicable : Bytes area → apply_refusal header area receiver hold list ≡ 0 → Applicable header area receiver hold list
  applicable bytes e =
      let passed = apply_passed header area receiver hold list e in
      let buffers = passed.buffers in
      let t = area_passed part (pieces_of header.kind area) passed.read in
      record {
        area_sized = buffers.sized;
        hold_sized = buffers.long;
        list_sized = buffers.room;
        held = buffers.most;
        may_be_sent = passed.fits;
        pieces = t.pieces;
        has = record {
          data_frame = λ d. read_allowed area t.pieces bytes (sym (data_records header.kind area d) ∙ t.are);
          other_frame = λ d. some_one [] t.pieces (sym (other_records header.kind area d) ∙ t.are);
        };
        joined = t.fitting;
      }

  applies : Applicable header area receiver hold list → apply_refusal header area receiver hold list ≡ 0
  applies f =
      apply_pass header area receiver hold list (record {
        buffers = record { sized = f.area_sized; long = f.hold_sized; room = f.list_sized; most = f.held };
        fits = f.may_be_sent;
        read = (λ j. first_of (area_table part (pieces_read header area f.pieces f.has j))) ∙ read_as part f.pieces ∙ rw f.joined refl;
      })

  list_back_so : (pieces : List Piece) → HasPieces header area pieces → (applied : Applied) (hold' list' : List ℕ)
      → ApplyOutcome header area receiver hold list (Ok applied) hold' list'
      → (packets_read (take applied.listed list') ≡ some (on_pieces part pieces).out) × (applied.packets ≡ length (on_pieces part pieces).out)
  list_back_so pieces has applied hold' list' o =
      rw (← joined_pieces header area receiver hold pieces (pieces_read header area pieces has))
      (apply_read header area receiver hold list applied hold' list' o)

-- ---- the demand

frame_again_so : (taps : ℕ) (frame before : List ℕ) (opened : Opened) (after : List ℕ) → OpenOutcome taps frame before (Ok opened) after
    → (area : List ℕ) × (NearFrame frame (frame_bytes_with taps (opened_reserved taps frame) opened.header area) × (header_fits opened.header ≡ true)
    × (length area ≡ 1908) × Bytes area × (after ≡ written before 0 area)
    × (opened.repaired ≡ differences frame (frame_bytes_with taps (opened_reserved taps frame) opened.header area)))
frame_again_so taps frame before opened after o =
    let b = near_of_open taps frame before opened.header opened.repaired after o in
    (opened_area taps frame, (b.0.near, b.0.may_be_sent, b.0.long, b.0.bytes, b.1, b.0.counted))

scrambles : (taps : ℕ) → Scrambles taps
scrambles taps = record { first_bits = first_bits taps; recurrence = recurrence taps; added = scrambled_byte taps; as_many = scrambled_length taps }

pub demand2_holds : Demand2
demand2_holds = record {
  header_back = read_of_coded;
  header_again = coded_of_read;
  header_same = sent_of_read;
  scrambler = scrambles;
  queue_exactly = λ queue start used bytes. (holds_so queue start used bytes, so_holds queue start used bytes);
  queue_waits = λ queue start used waiting h. waiting_exactly queue start used waiting h.can_wait (sym h.laid_out);
  area_exactly = read_iff;
  repairs_exactly = λ taps part scratch. (repairable taps part scratch, λ h. repairs taps part h.2.0 scratch h.2.1 h.0 h.1);
  repair_back = λ taps part sent before answer after allowed room to. shows taps part sent before to allowed room answer after;
  frame_back = open_of_near;
  frame_again = frame_again_so;
  sends = sends_so;
  opens_exactly = λ taps frame buffer. (openable taps frame buffer, opens taps frame buffer);
  applies_exactly = λ header area receiver hold list bytes.
      (applicable header area receiver hold list bytes, applies header area receiver hold list);
  list_back = list_back_so;
}
