-- How many packets and bytes wait in the ring, for all inputs, so that no caller reads the queue's marks.
use Rattle.std.specs.Prelude.{◌≡◌, List, [], ◌∷◌, ℕ, eqb, length, Result}
use Rattle.basics.specs.Sizes.{queue_size}
use Rattle.refusals.specs.Numbers.{answer_by}
use Rattle.refusals.specs.Table.{Row, ◌unless◌, first_of}
use Rattle.refusals.specs.declared.Refusal.{Refusal}
use Rattle.link.specs.Link.{Queue}
use Rattle.marks.specs.Queue.{is_ring_whole, waiting_in, packet_count, byte_count}
use Rattle.sender.specs.declared.Sender.{Sender}
use Rattle.sender.specs.declared.Counted.{Counted}

-- The refusals of `waiting`, as put and next_frame have them (01, "Refusal numbers"). 2: the queue is not 32,768 bytes. 3: it is not whole.
abbrev pub waiting_table : List ℕ → ℕ → ℕ → List Row
waiting_table queue start used =
    2 unless eqb (length queue) queue_size
    ∷ 3 unless is_ring_whole queue start used
    ∷ []

unfoldable pub waiting_refusal : List ℕ → ℕ → ℕ → ℕ
waiting_refusal queue start used = first_of (waiting_table queue start used)

-- the packets that wait, one that is begun among them, and the bytes that wait of them
abbrev pub counted : Queue → Counted
counted queue = record { packets = packet_count queue; bytes = byte_count queue }

-- what is counted is the queue that the used bytes stand for (`queue_exactly` and `queue_waits` of demand 2)
unfoldable pub waiting_answer : List ℕ → Sender → Result Counted Refusal
waiting_answer queue sender =
    answer_by (waiting_refusal queue sender.start sender.used) (counted (waiting_in queue sender.start sender.used))

-- the whole outcome of `waiting`
abbrev pub WaitingOutcome : List ℕ → Sender → Result Counted Refusal → Type 0
WaitingOutcome queue sender r = r ≡ waiting_answer queue sender
