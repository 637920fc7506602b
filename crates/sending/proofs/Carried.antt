-- What a frame carries, and what building it does to the queue that the bytes stand for (demand 3).
use mathlib.Core.Path.{◌≡◌, refl, ap, subst, ◌∙◌}
use mathlib.Core.Bool.{true, cond}
use mathlib.Core.List.{List}
use Prim.Native.Nat.{ℕ, suc, ◌+◌, ◌%◌}
use native.Mathlib.Omega.{arith}
use lib.ListN.{length, take}
use borrow.Author.Tests.{lt-ltb}
use Rattle.basics.specs.Lists.{Bytes}
use Rattle.basics.specs.Numbers.{fits_bits}
use Rattle.basics.proofs.Tests.{both_true}
use Rattle.lent.specs.Written.{written}
use Rattle.refusals.proofs.Table.{by-zero}
use Rattle.lent.proofs.Written.{written_front}
use Rattle.link.specs.Link.{Queue, IsQueue}
use Rattle.link.proofs.Packing.{Opened, frame_for}
use Rattle.link.specs.Store.{layout}
use Rattle.link.specs.Parsing.{parse}
use Rattle.link.proofs.RoundTrip.{parse_queue, parse_back}
use Rattle.packing.proofs.Filling.{fill_queue}
use Rattle.packing.proofs.Bench.{bench, area_length}
use Rattle.header.specs.Header.{all_ones, header_fits, fields_fit}
use Rattle.header.specs.declared.Fields.{Fields}
use Rattle.header.specs.declared.FrameKind.{FrameKind}
use Rattle.header.specs.declared.FrameKind.TheVariants.{Idle, Data}
use Rattle.header.specs.declared.Header.{Header}
use Rattle.frame.specs.Frame.{frame_bytes}
use Rattle.frame.proofs.Laws.{frame_length}
use Rattle.ring.specs.Ring.{round_from, ring_written}
use Rattle.ring.proofs.Laws.{ring_bytes, ring_read}
use Rattle.marks.specs.Queue.{used_in, waiting_in, start_after}
use Rattle.marks.proofs.Parsed.{whole_parsed, queue_is}
use Rattle.sender.specs.declared.Sender.{Sender}
use Rattle.sender.proofs.Stands.{Stands}
use Rattle.sending.specs.Next.{area_for, header_for, left_in, next_refusal, NextOutcome}
use Rattle.std.specs.Prelude.{Ok}
use Rattle.sending.proofs.Left.{left_bytes}
use Rattle.sending.proofs.AreaBytes.{area_bytes}
use Rattle.sending.proofs.Ring.{not_refused, passed, state_is, ring_is, waits_bytes, laid, left_fits}

-- a coded frame has this number and this content
pub record Carries (taps : ℕ) (frame : List ℕ) (number : ℕ) (opened : Opened) : Type 0 where
  pub header : Header
  pub fits_header : header_fits header ≡ true
  pub counted : header.txfn.0 ≡ number
  pub kind_is : header.kind ≡ cond opened.is_data Data Idle
  pub long : length opened.area ≡ 1908
  pub bytes : Bytes opened.area
  pub coded : frame ≡ frame_bytes taps header opened.area

module _ (taps : ℕ) (fields : Fields) (sender : Sender) (bytes out : List ℕ) (sender' : Sender) (kind : FrameKind) (bytes' out' : List ℕ) (i : ℕ) where
  -- the queue that the bytes stand for
  module _ (outcome : NextOutcome taps fields sender bytes out (Ok (record { sender = sender'; kind = kind })) bytes' out') (b : Bytes bytes) (count : sender.next.0 ≡ i % 65536) where
    abbrev waits : List ℕ
    waits = used_in bytes sender.start sender.used

    abbrev queue : Queue
    queue = waiting_in bytes sender.start sender.used

    is_queue : IsQueue queue
    is_queue = parse_queue waits queue (whole_parsed waits (passed outcome).whole)

    queue_bytes : Bytes (layout queue)
    queue_bytes = rw (laid outcome b) (waits_bytes outcome b)

    carries : Carries taps (take 2081 out') (i % 65536) (frame_for bench queue)
    unfolding bench
    carries =
        let header = header_for sender fields queue in
        let number = next_refusal taps fields sender.start sender.used bytes out in
        let long = area_length queue is_queue in
        let frame : out' ≡ written out 0 (frame_bytes taps header (area_for queue)) =
        outcome.frame ∙ by-zero number _ out (not_refused outcome) in
        record {
          header = header;
          fits_header = both_true (fits_bits 16 sender.next.0) (fields_fit fields)
              (lt-ltb sender.next.0 65536 (omega (arith, count))) (passed outcome).fits;
          counted = count;
          kind_is = refl;
          long = long;
          bytes = area_bytes queue queue_bytes;
          coded = ap (take 2081) frame
              ∙ written_front out (frame_bytes taps header (area_for queue)) 2081 (frame_length all_ones header taps (area_for queue) long);
        }

    remains : Stands bytes' sender' (suc i) (left_in queue)
    remains =
        let left = left_in queue in
        let rest = layout left in
        let p = passed outcome in
        let at = start_after sender.start sender.used (length rest) in
        let rest-bytes : Bytes rest = left_bytes queue is_queue queue_bytes in
        let read : used_in (ring_written bytes at 0 rest) at (length rest) ≡ rest =
        ap (take (length rest)) (ring_read bytes at 0 rest (omega (arith, p.long)) (omega (arith, p.long, p.most, left_fits outcome b)))
        ∙ written_front (round_from at bytes) rest (length rest) refl in
        rw (state_is outcome, ring_is outcome) (record {
          are_bytes = ring_bytes bytes at 0 rest b rest-bytes;
          parsed = ap parse read ∙ parse_back left (fill_queue queue is_queue);
          number = ap (λ (n : ℕ). (n + 1) % 65536) count ∙ omega arith;
        })

  -- A frame that is built carries what `Packing` says of the queue, and what it carries leaves the queue.
  pub next_stands : (queue : Queue) → NextOutcome taps fields sender bytes out (Ok (record { sender = sender'; kind = kind })) bytes' out' → Stands bytes sender i queue
      → Carries taps (take 2081 out') (i % 65536) (frame_for bench queue) × Stands bytes' sender' (suc i) (left_in queue)
  next_stands queue outcome s =
      let is = queue_is (used_in bytes sender.start sender.used) queue s.parsed in
      subst (λ (q : Queue). Carries taps (take 2081 out') (i % 65536) (frame_for bench q) × Stands bytes' sender' (suc i) (left_in q)) is
      (carries outcome s.are_bytes s.number, remains outcome s.are_bytes s.number)
