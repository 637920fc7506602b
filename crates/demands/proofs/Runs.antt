-- Demand 3 speaks of runs that matter: for all allowed taps and all first contents of the queue, every list of inputs whose packets find room, with header
-- fields that may be sent and frame buffers that are long enough, is answered with yes, call by call. With every way of its frames it makes a history
-- (`history_of` in Histories.antt).
use mathlib.Core.Path.{◌≡◌, refl, ap, ◌∙◌}
use mathlib.Core.Bool.{true}
use mathlib.Core.Option.{some}
use mathlib.Core.List.{List, [], ◌∷◌}
use Prim.Native.Nat.{ℕ, suc, ◌+◌, ◌≤◌, ◌<◌}
use native.Mathlib.Omega.{arith}
use lib.ListN.{length, length-append}
use borrow.Author.Tests.{eq-eqb, ne_eqb, le-leb, lt-ltb, le-ltb}
use Rattle.basics.specs.Lists.{Bytes, is_some}
use Rattle.basics.specs.Sizes.{queue_size, frame_size}
use Rattle.refusals.specs.Table.{first_of}
use Rattle.lent.specs.Written.{written}
use Rattle.std.specs.Prelude.{Ok}
use Rattle.refusals.proofs.Numbers.{answered, stands}
use Rattle.scrambler.specs.Scrambler.{taps_allowed}
use Rattle.header.specs.Header.{fields_fit}
use Rattle.header.specs.declared.Fields.{Fields}
use Rattle.frame.specs.Frame.{frame_bytes}
use Rattle.link.specs.Link.{IsPacket, Queue, empty}
use Rattle.link.proofs.Machine.{with_packet}
use Rattle.link.specs.Store.{marked, layout}
use Rattle.link.specs.Parsing.{parse, is_whole}
use Rattle.link.proofs.Store.{put_lays}
use Rattle.ring.specs.Ring.{ring_written}
use Rattle.ring.proofs.Laws.{ring_length}
use Rattle.marks.specs.Queue.{used_in, is_ring_whole, waiting_in}
use Rattle.marks.proofs.Parsed.{queue_is}
use Rattle.sender.specs.Put.{fresh_sender, put_refusal, put_sender, put_bytes, PutOutcome}
use Rattle.sending.specs.Next.{kind_for, area_for, header_for, left_in, sender_after, next_refusal, NextOutcome}
use Rattle.sender.specs.declared.Sender.{Sender}
use Rattle.sender.proofs.Stands.{Stands, fresh_stands}
use Rattle.sender.proofs.Putting.{put_stands}
use Rattle.sending.proofs.Left.{left_no_longer}
use Rattle.sending.proofs.Carried.{next_stands}
use Rattle.demands.specs.Demand3.{SenderCall, call_put, call_next, SenderCalls}
use Rattle.demands.proofs.Histories.{Input, give_packet, ask_frame}

-- ---- a sender that is not refused

pub record Ready (sender : Sender) (queue : List ℕ) (i : ℕ) (q : Queue) : Type 0 where
  pub stands : Stands queue sender i q
  pub size : length queue ≡ 32768
  pub begins : sender.start < 32768
  pub used_is : sender.used ≡ length (layout q)
  pub within : sender.used ≤ 32768

whole_so : (queue : List ℕ) (start used : ℕ) (q : Queue) → start < 32768 → used ≤ 32768
    → parse (used_in queue start used) ≡ some q → is_ring_whole queue start used ≡ true
unfolding is_ring_whole is_whole
whole_so queue start used q inside small e = rw (lt-ltb start 32768 inside, le-leb used 32768 small) (ap is_some e)

pub fresh_ready : (queue : List ℕ) → Bytes queue → length queue ≡ 32768 → Ready fresh_sender queue 0 empty
unfolding layout
fresh_ready queue b size = record { stands = fresh_stands queue b; size = size; begins = omega arith; used_is = refl; within = omega arith }

-- the packets are 1 to 9,000 bytes and find room in the queue, the fields may be sent, and a frame fits its buffer
abbrev pub Room : Queue → List Input → Type 0
Room q [] = Unit {0}
Room q (give_packet packet bytes ∷ inputs) = IsPacket packet × (length (layout q) + 2 + length packet ≤ queue_size) × Room (with_packet q packet) inputs
Room q (ask_frame fields out ∷ inputs) = (fields_fit fields ≡ true) × (frame_size ≤ length out) × Room (left_in q) inputs

module _ (taps : ℕ) (allowed : taps_allowed taps ≡ true) where
  -- the calls, each with a yes
  abbrev pub run : Sender → List ℕ → List Input → List SenderCall
  run sender queue [] = []
  run sender queue (give_packet packet bytes ∷ inputs) =
      call_put packet (Ok (put_sender sender packet)) (put_bytes queue sender.start sender.used packet)
      ∷ run (put_sender sender packet) (put_bytes queue sender.start sender.used packet) inputs
  run sender queue (ask_frame fields out ∷ inputs) =
      let waiting = waiting_in queue sender.start sender.used in
      call_next fields out (Ok (record { sender = sender_after sender waiting; kind = kind_for waiting }))
      (ring_written queue (sender_after sender waiting).start 0 (layout (left_in waiting)))
      (written out 0 (frame_bytes taps (header_for sender fields waiting) (area_for waiting)))
      ∷ run (sender_after sender waiting) (ring_written queue (sender_after sender waiting).start 0 (layout (left_in waiting))) inputs

  module _ {sender : Sender} {queue : List ℕ} {i : ℕ} {q : Queue} (r : Ready sender queue i q) where
    whole : is_ring_whole queue sender.start sender.used ≡ true
    whole = whole_so queue sender.start sender.used q r.begins r.within r.stands.parsed

    module _ (packet : List ℕ) (is-packet : IsPacket packet) (bytes : Bytes packet) (fits : length (layout q) + 2 + length packet ≤ 32768) where
      no_put_refusal : put_refusal queue sender.start sender.used packet ≡ 0
      unfolding put_refusal first_of
      no_put_refusal = rw (
        eq-eqb (length queue) 32768 r.size,
        whole,
        ne_eqb (length packet) 0 (λ z. omega (arith, is-packet.0)),
        le-ltb 9000 (length packet) is-packet.1,
        le-ltb 32768 (sender.used + 2 + length packet) (omega (arith, r.used_is)),
      )

      put_yes : PutOutcome queue sender packet (Ok (put_sender sender packet)) (put_bytes queue sender.start sender.used packet)
      put_yes =
          let n = put_refusal queue sender.start sender.used packet in
          record { answer = answered n _ _ no_put_refusal refl; bytes = stands n _ _ _ no_put_refusal refl }

      put_ready : Ready (put_sender sender packet) (put_bytes queue sender.start sender.used packet) i (with_packet q packet)
      put_ready =
          let after = put_bytes queue sender.start sender.used packet in
          let entry = marked (length packet) packet in
          let long = ap length (put_lays q packet) ∙ length-append (layout q) entry in
          record {
            stands = (put_stands queue sender packet (put_sender sender packet) after i q put_yes bytes r.stands).1;
            size = ring_length queue sender.start sender.used entry (omega (arith, r.size, r.begins)) (omega (arith, r.size, r.used_is)) ∙ r.size;
            begins = r.begins;
            used_is = omega (arith, r.used_is, long);
            within = omega (arith, r.used_is);
          }

    abbrev waiting : Queue
    waiting = waiting_in queue sender.start sender.used

    abbrev queue' : List ℕ
    queue' = ring_written queue (sender_after sender waiting).start 0 (layout (left_in waiting))

    module _ (fields : Fields) (out : List ℕ) (fit : fields_fit fields ≡ true) (room : frame_size ≤ length out) where
      abbrev out' : List ℕ
      out' = written out 0 (frame_bytes taps (header_for sender fields waiting) (area_for waiting))

      no_next_refusal : next_refusal taps fields sender.start sender.used queue out ≡ 0
      unfolding next_refusal first_of
      no_next_refusal = rw (allowed, eq-eqb (length queue) 32768 r.size, le-leb 2081 (length out) room, whole, fit)

      next_yes : NextOutcome taps fields sender queue out (Ok (record { sender = sender_after sender waiting; kind = kind_for waiting })) queue' out'
      next_yes =
          let n = next_refusal taps fields sender.start sender.used queue out in
          record {
            answer = answered n _ _ no_next_refusal refl;
            bytes = stands n _ _ _ no_next_refusal refl;
            frame = stands n _ _ _ no_next_refusal refl;
          }

      next_ready : Ready (sender_after sender waiting) queue' (suc i) (left_in q)
      next_ready =
          let left_is : length (layout (left_in waiting)) ≡ length (layout (left_in q)) =
          ap (λ (w : Queue). length (layout (left_in w))) (queue_is (used_in queue sender.start sender.used) q r.stands.parsed) in
          let less = left_no_longer q in
          record {
            stands = (next_stands taps fields sender queue out (sender_after sender waiting) (kind_for waiting) queue' out' i q next_yes r.stands).1;
            size = ring_length queue (sender_after sender waiting).start 0 (layout (left_in waiting))
                (omega (arith, r.size)) (omega (arith, r.size, r.used_is, r.within))
                ∙ r.size;
            begins = omega arith;
            used_is = left_is;
            within = omega (arith, r.used_is, r.within);
          }

  pub all_yes : (inputs : List Input) (sender : Sender) (queue : List ℕ) (i : ℕ) (q : Queue) → Ready sender queue i q → Room q inputs
      → SenderCalls taps sender queue (run sender queue inputs)
  all_yes [] sender queue i q r h = tt
  all_yes (give_packet packet bytes ∷ inputs) sender queue i q r h =
      let next = put_ready r packet h.0 bytes h.1 in
      let left = put_bytes queue sender.start sender.used packet in
      (bytes, put_yes r packet h.0 bytes h.1, all_yes inputs (put_sender sender packet) left i (with_packet q packet) next h.2)
  all_yes (ask_frame fields out ∷ inputs) sender queue i q r h =
      let next = next_ready r fields out h.0 h.1 in
      (next_yes r fields out h.0 h.1, all_yes inputs (sender_after sender (waiting r)) (queue' r) (suc i) (left_in q) next h.2)
