-- A worked history, for all allowed taps, all header fields that may be sent and all first contents of the buffers. An empty packet is refused with 4.
-- Packets of 1, 1,904, 1 and 1 bytes are taken, and four frames are sent. Frame 0 arrives, with the first packet and all of the second but its last byte;
-- frame 1 is missing, with that byte; frame 2 comes as zeros and is refused; frame 3 arrives. The first packet and the last come out, and two frames are
-- counted as missed before frame 3. Each clause of demand 3 says its part of this, so that none can go unseen; that the zeros are refused is `zeros_refused`
-- in Consequences2.antt.
use mathlib.Core.Path.{◌≡◌, ap, fun_ext, ◌∙◌}
use mathlib.Core.Bool.{true}
use mathlib.Core.List.{List, [], ◌∷◌, ◌++◌, map}
use Prim.Native.Nat.{ℕ, zero, suc, ◌≤◌, ◌<◌}
use native.Mathlib.Omega.{arith}
use lib.ListN.{length, replicate}
use borrow.Author.Tests.{eq-eqb}
use Rattle.basics.specs.Lists.{zeros, Bytes}
use Rattle.basics.specs.Sizes.{area_size, frame_size, queue_size, hold_size, list_size}
use Rattle.std.specs.Prelude.{Err}
use Rattle.refusals.specs.Numbers.{refusal_of}
use Rattle.refusals.specs.Table.{first_of, by}
use Rattle.refusals.specs.declared.Refusal.TheVariants.{PacketLength}
use Rattle.scrambler.specs.Scrambler.{taps_allowed}
use Rattle.header.specs.Header.{fields_fit}
use Rattle.header.specs.declared.Fields.{Fields}
use Rattle.link.specs.Link.{Packet, Piece, Answer, refused, empty}
use Rattle.link.proofs.Machine.{frames_of}
use Rattle.link.specs.Ledger.{Mark, ledger, unsent, came, gaps}
use Rattle.link.specs.Demand3.{packets_of, missed_of, packet_of}
use Rattle.link.specs.Store.{layout}
use Rattle.link.specs.Parsing.{parse, is_whole, packets_in}
use Rattle.packing.specs.Filling.{fill_waiting}
use Rattle.packing.proofs.Filling.{load}
use Rattle.marks.specs.Queue.{is_ring_whole}
use Rattle.sender.specs.Put.{fresh_sender, put_refusal, PutOutcome}
use Rattle.sender.proofs.Stands.{fresh_stands}
use Rattle.receiver.specs.Applying.{fresh_receiver}
use Rattle.demands.specs.Demand3.{SenderCall, call_put, SenderCalls, frames_sent, queue_left, pieces_carried, Fate, marks, learned, History, Promise}
use Rattle.demands.proofs.Sender.{granted, fresh_sound, all_carried}
use Rattle.demands.proofs.Demand3.{demand3_holds}
use Rattle.opening.proofs.NearFrame.{near_own}
use Rattle.demands.proofs.Histories.{Input, give_packet, ask_frame, Way, lose, pass, spoil, fates_of, way_marks, marked_so, history_of}
use Rattle.demands.proofs.Runs.{run, fresh_ready, all_yes}

abbrev pub long : Packet
long = replicate 1904 0x55

pub same_bytes : (byte : ℕ) → byte < 256 → (n : ℕ) → Bytes (replicate n byte)
same_bytes byte small zero = tt
same_bytes byte small (suc n) = (small, same_bytes byte small n)

module _ (taps : ℕ) (allowed : taps_allowed taps ≡ true) (fields : Fields) (fit : fields_fit fields ≡ true) (out : List ℕ) (out_size : frame_size ≤ length out)
    (area : List ℕ) (area_sized : area_size ≤ length area) (list : List ℕ) (list_sized : list_size ≤ length list)
    (queue : List ℕ) (queue_bytes : Bytes queue) (queue-size : length queue ≡ queue_size)
    (hold : List ℕ) (hold_sized : length hold ≡ hold_size) where
  abbrev inputs : List Input
  inputs =
      give_packet (0xAA ∷ []) (omega arith, tt)
      ∷ give_packet long (same_bytes 0x55 (omega arith) 1904)
      ∷ ask_frame fields out
      ∷ ask_frame fields out
      ∷ give_packet (0xBB ∷ []) (omega arith, tt)
      ∷ ask_frame fields out
      ∷ give_packet (0xCC ∷ []) (omega arith, tt)
      ∷ ask_frame fields out
      ∷ []

  abbrev pub calls : List SenderCall
  calls = call_put [] (Err PacketLength) queue ∷ run taps allowed fresh_sender queue inputs

  abbrev as_sent : Way
  as_sent = pass (λ frame. frame) near_own area list area_sized list_sized

  abbrev pub ways : List Way
  ways = as_sent ∷ lose ∷ spoil (zeros frame_size) area list ∷ as_sent ∷ []

  abbrev pub fates : List Fate
  fates = fates_of taps fresh_receiver hold ways (frames_sent calls)

  nothing_put : PutOutcome queue fresh_sender [] (Err PacketLength) queue
  unfolding put_refusal first_of is_ring_whole is_whole parse packets_in by refusal_of
  nothing_put = record { answer = rw (eq-eqb (length queue) 32768 queue-size); bytes = rw (eq-eqb (length queue) 32768 queue-size) }

  calls_met : SenderCalls taps fresh_sender queue calls
  unfolding load fill_waiting layout
  calls_met = (
    tt,
    nothing_put,
    all_yes taps allowed inputs fresh_sender queue 0 empty (fresh_ready queue queue_bytes queue-size) (
      (omega arith, omega arith),
      omega arith,
      (
        (omega arith, omega arith),
        omega arith,
        (
          fit,
          out_size,
          (
            fit,
            out_size,
            (
              (omega arith, omega arith),
              omega arith,
              (fit, out_size, ((omega arith, omega arith), omega arith, (fit, out_size, tt))),
            ),
          ),
        ),
      ),
    ),
  )

  -- it is a history ..
  pub history : History taps queue hold calls fates
  history = history_of taps allowed queue queue_bytes hold hold_sized ways (omega arith) calls calls_met

  promise : Promise taps queue calls fates
  promise = demand3_holds taps queue hold calls fates history

  carried : map (pieces_carried taps) (frames_sent calls) ≡ frames_of load empty (granted calls)
  carried =
      all_carried taps 0 (frames_sent calls) (frames_of load empty (granted calls))
      (fresh_sound taps fresh_sender queue calls (fresh_stands queue queue_bytes) calls_met).carried

  marked : marks fates ≡ way_marks taps ways
  marked = fun_ext (marked_so taps ways fresh_receiver hold (frames_sent calls) (omega arith))

  -- .. in which the first packet and the last come out, ..
  pub two_come_out : packets_of (learned fates) ≡ (0xAA ∷ []) ∷ (0xCC ∷ []) ∷ []
  unfolding load fill_waiting
  two_come_out =
      promise.exactly
      ∙ ap (λ (m : ℕ → Mark). came m (ledger (map (pieces_carried taps) (frames_sent calls)))) marked
      ∙ ap (λ (all : List (List Piece)). came (way_marks taps ways) (ledger all)) carried

  -- .. and the missed counts are 0 and 2
  pub two_missed : missed_of (learned fates) ≡ 0 ∷ 2 ∷ []
  two_missed = promise.counted ∙ ap (λ (m : ℕ → Mark). gaps m 0 4) marked

  -- .. no frame that arrived was refused, ..
  pub none_refused : (number : ℕ) (more : List Answer) → learned fates ≡ refused number ∷ more → ⊥
  none_refused number more e = rw e at promise.all_accepted

  -- .. and the packets sent are the four that were put, in their order, with nothing left to send
  pub four_sent : map packet_of (ledger (map (pieces_carried taps) (frames_sent calls)))
      ++ unsent (map (pieces_carried taps) (frames_sent calls)) (queue_left fresh_sender queue calls)
      ≡ (0xAA ∷ []) ∷ long ∷ (0xBB ∷ []) ∷ (0xCC ∷ []) ∷ []
  four_sent = promise.in_order
