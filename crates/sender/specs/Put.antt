-- Putting a packet into the ring (01, "Queue"; 02, M-105), for all inputs.
use Rattle.std.specs.Prelude.{◌≡◌, ◌||◌, List, [], ◌∷◌, ℕ, ◌+◌, eqb, length, Result}
use Rattle.basics.specs.Sizes.{most_packet, queue_size}
use Rattle.basics.specs.Numbers.{above}
use Rattle.refusals.specs.Numbers.{answer_by}
use Rattle.refusals.specs.Table.{Row, ◌when◌, ◌unless◌, first_of, by}
use Rattle.refusals.specs.declared.Refusal.{Refusal}
use Rattle.link.specs.Store.{marked}
use Rattle.ring.specs.Ring.{ring_written}
use Rattle.marks.specs.Queue.{is_ring_whole}
use Rattle.sender.specs.declared.Sender.{Sender}

-- the ring begins at byte 0, nothing of it is used, and the first frame is frame 0
abbrev pub fresh_sender : Sender
fresh_sender = record { start = 0; used = 0; next = record { 0 = 0 } }

-- The refusals of `put` (01, "Refusal numbers"). 2: the queue is not 32,768 bytes. 3: it is not whole. 4: a packet of 0 or above 9,000 bytes.
-- 5: used + 2 + length is above 32,768.
abbrev pub put_table : List ℕ → ℕ → ℕ → List ℕ → List Row
put_table queue start used packet =
    2 unless eqb (length queue) queue_size
    ∷ 3 unless is_ring_whole queue start used
    ∷ 4 when (eqb (length packet) 0 || above (length packet) most_packet)
    ∷ 5 when above (used + 2 + length packet) queue_size
    ∷ []

unfoldable pub put_refusal : List ℕ → ℕ → ℕ → List ℕ → ℕ
put_refusal queue start used packet = first_of (put_table queue start used packet)

-- the sender with a packet put: its mark and its bytes are used, and start and next frame are the same
abbrev pub put_sender : Sender → List ℕ → Sender
put_sender sender packet = record { start = sender.start; used = sender.used + 2 + length packet; next = sender.next }

-- the ring with a packet put: its mark, which is its length, and its bytes behind the used ones; nothing else is touched
abbrev pub put_bytes : List ℕ → ℕ → ℕ → List ℕ → List ℕ
put_bytes queue start used packet = ring_written queue start used (marked (length packet) packet)

-- The whole outcome of `put`: the answer, and the ring's bytes. What waits afterwards is what waited before, with the packet behind it: `put_stands` in
-- proofs/Putting.antt.
pub record PutOutcome (queue : List ℕ) (sender : Sender) (packet : List ℕ) (r : Result Sender Refusal) (after : List ℕ) : Type 0 where
  pub answer : r ≡ answer_by (put_refusal queue sender.start sender.used packet) (put_sender sender packet)
  pub bytes : after ≡ by (put_refusal queue sender.start sender.used packet) (put_bytes queue sender.start sender.used packet) queue
