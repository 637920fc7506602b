-- What the code does on the way to a frame: `fill` takes records off the ring, `free_front` frees what they took. The contract of `next_frame` does not cite
-- it, so whoever reads that contract need not believe anything here.
use Rattle.std.specs.Prelude.{◌≡◌, List, ℕ, ◌+◌, ◌≤◌, length, drop, Option, Some, None, IfSome}
use Rattle.basics.specs.Sizes.{area_size, most_held, begun_bit}
use Rattle.link.specs.Store.{marked, layout}
use Rattle.packing.specs.Rules.{area_of}
use Rattle.packing.specs.Filling.{fill}
use Rattle.ring.specs.Ring.{ring_written}
use Rattle.marks.specs.Queue.{queue_in, start_after}
use Rattle.sender.specs.declared.filling.Filled.{Filled}
use Rattle.sender.specs.declared.Sender.{Sender}

-- what remains: bytes from a mark on; or those of a packet that was cut, with this many unsent, and then its new mark stands before them
abbrev pub remaining : Option ℕ → List ℕ → List ℕ
remaining None bytes = bytes
remaining (Some unsent) bytes = marked (begun_bit + unsent) bytes

pub record FillOutcome (bytes : List ℕ) (r : Filled) (after : List ℕ) : Type 0 where
  pub filled : after ≡ area_of (fill area_size (queue_in bytes)).pieces
  pub rest : layout (fill area_size (queue_in bytes)).left ≡ remaining r.unsent (drop r.stop bytes)
  pub inside : r.stop ≤ length bytes
  pub cut : IfSome r.unsent (λ unsent. (unsent ≤ most_held) × (2 ≤ r.stop))

-- this rest of the used bytes remains, and the ring holds it from its new start on; the next frame's number stays
pub record Freed (queue : List ℕ) (sender : Sender) (rest : List ℕ) (r : Sender) (after : List ℕ) : Type 0 where
  pub count : r.used ≡ length rest
  pub begins : r.start ≡ start_after sender.start sender.used (length rest)
  pub number : r.next ≡ sender.next
  pub bytes : after ≡ ring_written queue (start_after sender.start sender.used (length rest)) 0 rest
