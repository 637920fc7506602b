-- Demand 3 supposes nothing beyond what its head says: for all allowed taps and all first contents of queue and hold, every list of inputs to the sender and
-- every list of ways of its frames, up to 65,537 of them, makes a whole history with the outcomes that the contracts admit (`any_history`). These are the
-- only ones (`one_outcome` of demand 1). So a further field of `History`, or a stricter one, is refused here.
use mathlib.Core.Path.{◌≡◌, refl}
use mathlib.Core.Bool.{true}
use mathlib.Core.List.{List, [], ◌∷◌}
use Prim.Native.Nat.{ℕ, zero, suc, ◌≤◌, ◌<◌}
use native.Mathlib.Omega.{arith}
use lib.ListN.{length, take}
use Rattle.basics.specs.Lists.{Bytes}
use Rattle.basics.specs.Sizes.{area_size, frame_size, hold_size, list_size}
use Rattle.std.specs.Prelude.{Result, Ok, Err}
use Rattle.refusals.specs.declared.Refusal.{Refusal}
use Rattle.scrambler.specs.Scrambler.{taps_allowed}
use Rattle.header.specs.declared.Fields.{Fields}
use Rattle.link.specs.Ledger.{Mark, lost, accepted, Limit}
use Rattle.sender.specs.Put.{fresh_sender}
use Rattle.sender.specs.declared.Sender.{Sender}
use Rattle.sender.proofs.Stands.{fresh_stands}
use Rattle.opening.specs.NearFrame.{NearFrame}
use Rattle.opening.specs.declared.Opened.{Opened}
use Rattle.receiver.specs.Applying.{fresh_receiver, receiver_after}
use Rattle.receiver.specs.declared.Receiver.{Receiver}
use Rattle.receiver.specs.declared.Applied.{Applied}
use Rattle.demands.specs.Demand3.{
  SenderCall,
  call_put,
  call_next,
  put_leaves,
  next_leaves,
  SenderCalls,
  frames_sent,
  BothCalls,
  AppliedAs,
  Receives,
  Fate,
  missing,
  arrives,
  damaged,
  ReceiverCalls,
  mark_of,
  marks,
  History,
}
use Rattle.demands.proofs.Demand1.{every_call_holds}
use Rattle.demands.proofs.Sender.{AllLong, all_long, fresh_sound}

-- ---- any inputs to the sender: a packet to put, whether it finds room or not, or a frame to send, with any header fields and any buffer

pub data Input : Type 0 where
  give_packet : (packet : List ℕ) → Bytes packet → Input
  ask_frame : (fields : Fields) (out : List ℕ) → Input

module _ (taps : ℕ) where
  abbrev pub calls_of : Sender → List ℕ → List Input → List SenderCall
  calls_of sender queue [] = []
  calls_of sender queue (give_packet packet bytes ∷ inputs) =
      let called = (every_call_holds.put queue sender packet).answered in
      call_put packet called.0 called.1.0 ∷ calls_of (put_leaves sender called.0) called.1.0 inputs
  calls_of sender queue (ask_frame fields out ∷ inputs) =
      let called = (every_call_holds.next_frame taps fields sender queue out).answered in
      call_next fields out called.0 called.1.0.0 called.1.0.1 ∷ calls_of (next_leaves sender called.0) called.1.0.0 inputs

  pub any_calls : (inputs : List Input) (sender : Sender) (queue : List ℕ) → SenderCalls taps sender queue (calls_of sender queue inputs)
  any_calls [] sender queue = tt
  any_calls (give_packet packet bytes ∷ inputs) sender queue =
      let called = (every_call_holds.put queue sender packet).answered in
      (bytes, called.1.1, any_calls inputs (put_leaves sender called.0) called.1.0)
  any_calls (ask_frame fields out ∷ inputs) sender queue =
      let called = (every_call_holds.next_frame taps fields sender queue out).answered in
      (called.1.1, any_calls inputs (next_leaves sender called.0) called.1.0.0)

-- ---- any ways of the frames: lost; come near what was sent, with any buffers of the listed sizes for area and list; come as any other bytes, with any buffers

pub data Way : Type 0 where
  lose : Way
  pass : (came : List ℕ → List ℕ) → ((frame : List ℕ) → length frame ≡ frame_size → NearFrame (came frame) frame)
      → (area list : List ℕ) → area_size ≤ length area → list_size ≤ length list → Way
  spoil : (other area list : List ℕ) → Way

-- what was opened is answered when it is applied
applied : (opened : Result Opened Refusal) (area : List ℕ) (receiver : Receiver) (hold list : List ℕ)
    → (answer : Result Applied Refusal) × ((lent : List ℕ × List ℕ) × AppliedAs opened area receiver hold list answer lent.0 lent.1)
applied (Ok opened) area receiver hold list = (every_call_holds.apply opened.header area receiver hold list).answered
applied (Err refusal) area receiver hold list = (Err refusal, ((hold, list), (refl, refl, refl)))

-- other bytes that are refused are the frame, damaged; where they are not refused, let the frame be lost
abbrev pub spoiled : List ℕ → BothCalls → Result Applied Refusal → Fate
spoiled other both (Ok applied) = missing
spoiled other both (Err refusal) = damaged other refusal both

abbrev pub held_then : Result Applied Refusal → List ℕ → List ℕ → List ℕ
held_then (Ok applied) hold left = hold
held_then (Err refusal) hold left = left

module _ (taps : ℕ) where
  -- the two calls that a frame is given to, with what their contracts determine
  pub received : (frame : List ℕ) (receiver : Receiver) (hold area list : List ℕ) → (both : BothCalls) × Receives taps frame receiver hold both
  received frame receiver hold area list =
      let first = (every_call_holds.open_frame taps frame area).answered in
      let then = applied first.0 (take 1908 first.1.0) receiver hold list in (
        record {
          area = area;
          opened = first.0;
          area' = first.1.0;
          list = list;
          answer = then.0;
          hold' = then.1.0.0;
          list' = then.1.0.1;
        },
        (first.1.1, then.1.1),
      )

  abbrev pub fates_of : Receiver → List ℕ → List Way → List (List ℕ) → List Fate
  fates_of receiver hold [] frames = []
  fates_of receiver hold (way ∷ ways) [] = []
  fates_of receiver hold (lose ∷ ways) (frame ∷ frames) = missing ∷ fates_of receiver hold ways frames
  fates_of receiver hold (pass came near area list area-room list-room ∷ ways) (frame ∷ frames) =
      let both = (received (came frame) receiver hold area list).0 in
      arrives (came frame) both ∷ fates_of (receiver_after receiver both.answer) both.hold' ways frames
  fates_of receiver hold (spoil other area list ∷ ways) (frame ∷ frames) =
      let both = (received other receiver hold area list).0 in
      spoiled other both both.answer ∷ fates_of receiver (held_then both.answer hold both.hold') ways frames

  spoiled_meets : (other : List ℕ) (receiver : Receiver) (hold : List ℕ) (both : BothCalls) → Receives taps other receiver hold both
      → (answer : Result Applied Refusal) → both.answer ≡ answer → (frame : List ℕ) (fates : List Fate) (frames : List (List ℕ))
      → ReceiverCalls taps receiver (held_then answer hold both.hold') fates frames
      → ReceiverCalls taps receiver hold (spoiled other both answer ∷ fates) (frame ∷ frames)
  spoiled_meets other receiver hold both met (Ok done) e frame fates frames h = h
  spoiled_meets other receiver hold both met (Err refusal) e frame fates frames h = (met, e, h)

  pub any_fates : (ways : List Way) (receiver : Receiver) (hold : List ℕ) (frames : List (List ℕ)) → AllLong frames
      → ReceiverCalls taps receiver hold (fates_of receiver hold ways frames) frames
  unfolding received
  any_fates [] receiver hold frames long = tt
  any_fates (way ∷ ways) receiver hold [] long = tt
  any_fates (lose ∷ ways) receiver hold (frame ∷ frames) long = any_fates ways receiver hold frames long.1
  any_fates (pass came near area list area-room list-room ∷ ways) receiver hold (frame ∷ frames) long =
      let called = received (came frame) receiver hold area list in
      let both = called.0 in
      (near frame long.0, area-room, list-room, called.1, any_fates ways (receiver_after receiver both.answer) both.hold' frames long.1)
  any_fates (spoil other area list ∷ ways) receiver hold (frame ∷ frames) long =
      let called = received other receiver hold area list in
      let both = called.0 in
      let left = held_then both.answer hold both.hold' in
      spoiled_meets other receiver hold both called.1 both.answer refl frame (fates_of receiver left ways frames) frames
      (any_fates ways receiver left frames long.1)

  no_more : (ways : List Way) (receiver : Receiver) (hold : List ℕ) (frames : List (List ℕ)) → length (fates_of receiver hold ways frames) ≤ length ways
  no_more [] receiver hold frames = omega arith
  no_more (way ∷ ways) receiver hold [] = omega arith
  no_more (lose ∷ ways) receiver hold (frame ∷ frames) = omega (arith, no_more ways receiver hold frames)
  no_more (pass came near area list area-room list-room ∷ ways) receiver hold (frame ∷ frames) =
      let both = (received (came frame) receiver hold area list).0 in
      omega (arith, no_more ways (receiver_after receiver both.answer) both.hold' frames)
  no_more (spoil other area list ∷ ways) receiver hold (frame ∷ frames) =
      let both = (received other receiver hold area list).0 in
      omega (arith, no_more ways receiver (held_then both.answer hold both.hold') frames)

  -- the mark of each frame is that of its way
  abbrev pub way_marks : List Way → ℕ → Mark
  way_marks [] i = lost
  way_marks (pass came near area list area-room list-room ∷ ways) zero = accepted
  way_marks (lose ∷ ways) zero = lost
  way_marks (spoil other area list ∷ ways) zero = lost
  way_marks (way ∷ ways) (suc i) = way_marks ways i

  spoiled_lost : (other : List ℕ) (both : BothCalls) (answer : Result Applied Refusal) → mark_of (spoiled other both answer) ≡ lost
  spoiled_lost other both (Ok done) = refl
  spoiled_lost other both (Err refusal) = refl

  pub marked_so : (ways : List Way) (receiver : Receiver) (hold : List ℕ) (frames : List (List ℕ)) → length ways ≤ length frames
      → (i : ℕ) → marks (fates_of receiver hold ways frames) i ≡ way_marks ways i
  marked_so [] receiver hold frames h i = refl
  marked_so (way ∷ ways) receiver hold [] h i = absurd (omega arith)
  marked_so (lose ∷ ways) receiver hold (frame ∷ frames) h zero = refl
  marked_so (pass came near area list area-room list-room ∷ ways) receiver hold (frame ∷ frames) h zero = refl
  marked_so (spoil other area list ∷ ways) receiver hold (frame ∷ frames) h zero =
      let both = (received other receiver hold area list).0 in
      spoiled_lost other both both.answer
  marked_so (lose ∷ ways) receiver hold (frame ∷ frames) h (suc i) = marked_so ways receiver hold frames (omega arith) i
  marked_so (pass came near area list area-room list-room ∷ ways) receiver hold (frame ∷ frames) h (suc i) =
      let both = (received (came frame) receiver hold area list).0 in
      marked_so ways (receiver_after receiver both.answer) both.hold' frames (omega arith) i
  marked_so (spoil other area list ∷ ways) receiver hold (frame ∷ frames) h (suc i) =
      let both = (received other receiver hold area list).0 in
      marked_so ways receiver (held_then both.answer hold both.hold') frames (omega arith) i

-- few frames are within the limit
accepted_inside : (fates : List Fate) (i : ℕ) → marks fates i ≡ accepted → i < length fates
accepted_inside [] i e = let z : ◌≡◌ {A = ℕ} 0 1 = cc in absurd (omega arith)
accepted_inside (fate ∷ fates) zero e = omega arith
accepted_inside (fate ∷ fates) (suc i) e = omega (arith, accepted_inside fates i e)

few_limit : (fates : List Fate) → length fates ≤ 65537 → Limit (marks fates)
few_limit fates few a b less x y between = omega (arith, accepted_inside fates b y)

-- ---- a history of each

module _ (taps : ℕ) (allowed : taps_allowed taps ≡ true) (queue : List ℕ) (queue_bytes : Bytes queue) (hold : List ℕ) (hold_sized : length hold ≡ hold_size)
    (ways : List Way) (few : length ways ≤ 65537) where
  -- of calls that met their contracts, with any ways
  pub history_of : (calls : List SenderCall) → SenderCalls taps fresh_sender queue calls
      → History taps queue hold calls (fates_of taps fresh_receiver hold ways (frames_sent calls))
  history_of calls met = record {
    allowed = allowed;
    queue_bytes = queue_bytes;
    hold_sized = hold_sized;
    sent = met;
    came = any_fates taps ways fresh_receiver hold (frames_sent calls)
        (all_long taps 0 (frames_sent calls) _ (fresh_sound taps fresh_sender queue calls (fresh_stands queue queue_bytes) met).carried);
    limit = few_limit (fates_of taps fresh_receiver hold ways (frames_sent calls)) (omega (arith, no_more taps ways fresh_receiver hold (frames_sent calls)));
  }

  -- of any inputs, with any ways
  pub any_history : (inputs : List Input)
      → History taps queue hold (calls_of taps fresh_sender queue inputs)
      (fates_of taps fresh_receiver hold ways (frames_sent (calls_of taps fresh_sender queue inputs)))
  any_history inputs = history_of (calls_of taps fresh_sender queue inputs) (any_calls taps inputs fresh_sender queue)
