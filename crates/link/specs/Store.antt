-- The queue as bytes (01, "Queue"): in order, for each packet a mark of two bytes, high byte first, and its unsent bytes. Bit 15 of a mark tells that the
-- packet is begun, and may be set on the front packet only; the rest of the mark is the length. (Not to be mixed up with the marks of `Ledger`.) Where these
-- bytes stand in the sender's ring is `used_in`, crates/marks/specs/Queue.antt.
use Rattle.std.proofs.Math.Option.{Option, none, some}
use Rattle.std.specs.Prelude.{List, [], ◌∷◌, ◌++◌, ℕ, ◌+◌, length}
use Rattle.basics.specs.Sizes.{begun_bit}
use Rattle.basics.specs.Numbers.{high_first}
use Rattle.link.specs.Link.{Packet, Queue}

-- bytes behind their mark
abbrev pub marked : ℕ → List ℕ → List ℕ
marked mark bytes = high_first 2 mark ++ bytes

-- Packets one behind the other, each behind its length: those that wait in a queue, and the list of packets received (01, "Receiving").
abbrev pub layout_packets : List Packet → List ℕ
layout_packets [] = []
layout_packets (packet ∷ packets) = marked (length packet) packet ++ layout_packets packets

abbrev pub layout_rest : Option (List ℕ) → List ℕ
layout_rest none = []
layout_rest (some rest) = marked (begun_bit + length rest) rest

unfoldable pub layout : Queue → List ℕ
layout queue = layout_rest queue.rest ++ layout_packets queue.waiting
