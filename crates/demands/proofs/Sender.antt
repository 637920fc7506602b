-- The sender's half of a history: the frames that it sends carry the pieces that are cut from the queue, frame by frame.
use mathlib.Core.Path.{◌≡◌, refl, ap, subst, ◌∙◌}
use mathlib.Core.Bool.{Bool, true, false, cond}
use mathlib.Core.Option.{some}
use mathlib.Core.List.{List, [], ◌∷◌, map}
use Prim.Native.Nat.{ℕ, suc, ◌%◌}
use lib.ListN.{length}
use Rattle.std.specs.Prelude.{Ok, Err}
use Rattle.header.specs.Header.{all_ones}
use Rattle.header.specs.declared.FrameKind.{FrameKind}
use Rattle.header.specs.declared.FrameKind.TheVariants.{Idle, Data}
use Rattle.header.specs.declared.Header.{Header}
use Rattle.frame.specs.Frame.{frame_bytes}
use Rattle.frame.proofs.Laws.{frame_length}
use Rattle.opening.specs.Opening.{opened_header, opened_area}
use Rattle.opening.proofs.NearFrame.{near_own}
use Rattle.opening.proofs.Built.{near_header_lem, near_area}
use Rattle.link.specs.Link.{Packet, ArePackets, Piece, Queue, IsQueue, Cut, empty}
use Rattle.link.proofs.Machine.{with_packet, cut, Call, puts_of, frames_of, queue_after}
use Rattle.link.proofs.Machine as machine
use Rattle.link.proofs.Packing.{Opened, frame_for, pieces_in, frame_pieces}
use Rattle.link.proofs.Sender.{put_queue, cut_queue}
use Rattle.marks.specs.Queue.{used_in}
use Rattle.marks.proofs.Parsed.{queue_is}
use Rattle.packing.proofs.Filling.{load, fill_cut}
use Rattle.packing.specs.Records.{read}
use Rattle.packing.proofs.Bench.{bench}
use Rattle.sender.specs.declared.Sender.{Sender}
use Rattle.sender.proofs.Stands.{Stands}
use Rattle.sender.proofs.Putting.{put_stands}
use Rattle.sending.proofs.Carried.{Carries, next_stands}
use Rattle.receiver.specs.Applying.{pieces_of, or_none}
use Rattle.demands.specs.Demand3.{SenderCall, call_put, call_next, SenderCalls, packets_put, frames_sent, queue_left, pieces_carried}
use Rattle.demands.proofs.Outcomes.{refusal_keeps}
use Rattle.demands.proofs.Demand1.{every_call_holds}

-- the calls that were not refused
abbrev pub granted : List SenderCall → List Call
granted [] = []
granted (call_put packet (Ok after) queue ∷ calls) = machine.put packet ∷ granted calls
granted (call_put packet (Err refusal) queue ∷ calls) = granted calls
granted (call_next fields out (Ok sent) queue after ∷ calls) = machine.next ∷ granted calls
granted (call_next fields out (Err refusal) queue after ∷ calls) = granted calls

-- frames of 2,081 bytes
abbrev pub AllLong : List (List ℕ) → Type 0
AllLong [] = Unit {0}
AllLong (frame ∷ frames) = (length frame ≡ 2081) × AllLong frames

module _ (taps : ℕ) where
  -- a coded frame has the number of frame i, and these pieces
  pub record Sends (frame : List ℕ) (i : ℕ) (pieces : List Piece) : Type 0 where
    pub opened : Opened
    pub carries : Carries taps frame (i % 65536) opened
    pub has : pieces_in bench opened ≡ some pieces

  -- the frames, the first of them frame i, have these pieces
  abbrev pub AllSend : ℕ → List (List ℕ) → List (List Piece) → Type 0
  AllSend i [] [] = Unit {0}
  AllSend i [] (pieces ∷ more) = ⊥
  AllSend i (frame ∷ frames) [] = ⊥
  AllSend i (frame ∷ frames) (pieces ∷ more) = Sends frame i pieces × AllSend (suc i) frames more

  -- ---- a frame opened

  same_pieces : (kind : FrameKind) (opened : Opened) → kind ≡ cond opened.is_data Data Idle → pieces_of kind opened.area ≡ pieces_in bench opened
  unfolding bench
  same_pieces kind opened e = ap (λ (k : FrameKind). pieces_of k opened.area) e ∙ go opened.is_data
    where
      go : (test : Bool) → pieces_of (cond test Data Idle) opened.area ≡ cond test (read opened.area) (some [])
      go true = refl
      go false = refl

  module _ {frame : List ℕ} {i : ℕ} {pieces : List Piece} (s : Sends frame i pieces) where
    abbrev header : Header
    header = s.carries.header

    abbrev area : List ℕ
    area = s.opened.area

    pub own_pieces : pieces_of header.kind area ≡ some pieces
    own_pieces = same_pieces header.kind s.opened s.carries.kind_is ∙ s.has

    abbrev built : List ℕ
    built = frame_bytes taps header area

    built_length : length built ≡ 2081
    built_length = frame_length all_ones header taps area s.carries.long

    header_is : opened_header taps frame ≡ header
    header_is =
        ap (opened_header taps) s.carries.coded
        ∙ near_header_lem taps all_ones header area s.carries.long s.carries.bytes built (near_own built built_length) s.carries.fits_header

    area_is : opened_area taps frame ≡ area
    area_is =
        ap (opened_area taps) s.carries.coded
        ∙ near_area taps all_ones header area s.carries.long s.carries.bytes built (near_own built built_length)

    pieces_are : pieces_of (opened_header taps frame).kind (opened_area taps frame) ≡ some pieces
    pieces_are = (λ j. pieces_of (header_is j).kind (area_is j)) ∙ own_pieces

  -- every frame that is sent has 2,081 bytes
  pub all_long : (i : ℕ) (frames : List (List ℕ)) (all : List (List Piece)) → AllSend i frames all → AllLong frames
  all_long i [] [] h = tt
  all_long i [] (pieces ∷ more) h = absurd h
  all_long i (frame ∷ frames) [] h = absurd h
  all_long i (frame ∷ frames) (pieces ∷ more) h =
      (ap length h.0.carries.coded ∙ built_length h.0, all_long (suc i) frames more h.1)

  pub all_carried : (i : ℕ) (frames : List (List ℕ)) (all : List (List Piece)) → AllSend i frames all → map (pieces_carried taps) frames ≡ all
  all_carried i [] [] h = refl
  all_carried i [] (pieces ∷ more) h = absurd h
  all_carried i (frame ∷ frames) [] h = absurd h
  all_carried i (frame ∷ frames) (pieces ∷ more) h =
      λ j. or_none (pieces_are h.0 j) ∷ all_carried (suc i) frames more h.1 j

  -- ---- the calls, from a state that stands for a queue after i frames

  bench_pieces : (q : Queue) → IsQueue q → pieces_in bench (frame_for bench q) ≡ some (cut (load q) q).pieces
  unfolding bench
  bench_pieces q k = frame_pieces bench q k

  pub record Sound (i : ℕ) (q : Queue) (sender : Sender) (queue : List ℕ) (calls : List SenderCall) : Type 0 where
    pub carried : AllSend i (frames_sent calls) (frames_of load q (granted calls))
    pub packets : ArePackets (packets_put calls)
    pub taken : puts_of (granted calls) ≡ packets_put calls
    pub left : queue_left sender queue calls ≡ queue_after load q (granted calls)

  sound : (calls : List SenderCall) (i : ℕ) (q : Queue) (sender : Sender) (queue : List ℕ) → Stands queue sender i q → IsQueue q
      → SenderCalls taps sender queue calls → Sound i q sender queue calls
  sound [] i q sender queue s k h =
      record { carried = tt; packets = tt; taken = refl; left = queue_is (used_in queue sender.start sender.used) q s.parsed }
  sound (call_put packet (Ok after) left ∷ calls) i q sender queue s k h =
      let l = put_stands queue sender packet after left i q h.1 h.0 s in
      let r = sound calls i (with_packet q packet) after left l.1 (put_queue q packet k l.0) h.2 in
      record { carried = r.carried; packets = (l.0, r.packets); taken = ap (λ (ps : List Packet). packet ∷ ps) r.taken; left = r.left }
  sound (call_put packet (Err refusal) left ∷ calls) i q sender queue s k h =
      let same : left ≡ queue = refusal_keeps (every_call_holds.put queue sender packet) refusal left h.1 in
      let r = sound calls i q sender left (rw same s) k h.2 in
      record { carried = r.carried; packets = r.packets; taken = r.taken; left = r.left }
  sound (call_next fields out (Ok sent) left after ∷ calls) i q sender queue s k h =
      let l = next_stands taps fields sender queue out sent.sender sent.kind left after i q h.0 s in
      let stands = subst (λ (c : Cut). Stands left sent.sender (suc i) c.left) (fill_cut q k) l.1 in
      let r = sound calls (suc i) (cut (load q) q).left sent.sender left stands (cut_queue (load q) q k) h.1 in
      record {
        carried = (record { opened = frame_for bench q; carries = l.0; has = bench_pieces q k }, r.carried);
        packets = r.packets;
        taken = r.taken;
        left = r.left;
      }
  sound (call_next fields out (Err refusal) left after ∷ calls) i q sender queue s k h =
      let kept = refusal_keeps (every_call_holds.next_frame taps fields sender queue out) refusal (left, after) h.0 in
      let same : left ≡ queue = ap (λ (lent : List ℕ × List ℕ). lent.0) kept in
      let r = sound calls i q sender left (rw same s) k h.1 in
      record { carried = r.carried; packets = r.packets; taken = r.taken; left = r.left }

  pub fresh_sound : (sender₀ : Sender) (queue : List ℕ) (calls : List SenderCall) → Stands queue sender₀ 0 empty → SenderCalls taps sender₀ queue calls
      → Sound 0 empty sender₀ queue calls
  fresh_sound sender₀ queue calls s h = sound calls 0 empty sender₀ queue s (tt, tt) h
