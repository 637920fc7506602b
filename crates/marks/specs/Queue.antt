-- The queue in its ring (01, "Queue"; 02, M-105): where its used bytes stand, whether they stand for waiting packets and for which, where they begin once
-- some are freed, and how many packets and bytes wait.
use Rattle.std.specs.Prelude.{ℕ, ◌+◌, ◌-◌, ◌%◌, Bool, ◌&&◌, List, [], ◌∷◌, length, take, nat_le, nat_lt}
use Rattle.std.proofs.Math.Option.{Option, none, some, get_or}
use Rattle.basics.specs.Sizes.{queue_size}
use Rattle.link.specs.Link.{Packet, Queue, empty}
use Rattle.link.specs.Parsing.{parse, is_whole}
use Rattle.ring.specs.Ring.{round_from}

-- the used bytes, in order: byte i of them stands at (start + i) modulo 32,768 (`waiting_byte` in proofs/Used.antt)
abbrev pub used_in : List ℕ → ℕ → ℕ → List ℕ
used_in queue start used = take used (round_from start queue)

-- start and count are those of a ring of 32,768, and its used bytes stand for waiting packets (otherwise refusal 3); the others are not looked at. In plain
-- words, with `layout` alone: `queue_exactly` of demand 2.
unfoldable pub is_ring_whole : List ℕ → ℕ → ℕ → Bool
is_ring_whole queue start used = nat_lt start queue_size && nat_le used queue_size && is_whole (used_in queue start used)

-- the queue that bytes stand for, the one whose layout they are; where they stand for none a call is refused, and the empty one is not used
unfoldable pub queue_in : List ℕ → Queue
queue_in bytes = get_or (parse bytes) empty

-- the packets that wait in the ring, in order
abbrev pub waiting_in : List ℕ → ℕ → ℕ → Queue
waiting_in queue start used = queue_in (used_in queue start used)

-- the start once `left` of the used bytes still wait: it moves on by what was freed, round, and is never put back
abbrev pub start_after : ℕ → ℕ → ℕ → ℕ
start_after start used left = (start + (used - left)) % queue_size

-- ---------------------------------------------------------------- how much waits

-- what waits of each packet, in order: of one that is begun its rest, of the others all
abbrev pub parts_with : Option (List ℕ) → List Packet → List (List ℕ)
parts_with none packets = packets
parts_with (some rest) packets = rest ∷ packets

abbrev pub parts_of : Queue → List (List ℕ)
parts_of queue = parts_with queue.rest queue.waiting

-- how many packets wait, one that is begun among them
abbrev pub packet_count : Queue → ℕ
packet_count queue = length (parts_of queue)

-- how many bytes of them wait; marks are not counted
abbrev pub bytes_in : List (List ℕ) → ℕ
bytes_in [] = 0
bytes_in (part ∷ parts) = length part + bytes_in parts

abbrev pub byte_count : Queue → ℕ
byte_count queue = bytes_in (parts_of queue)
