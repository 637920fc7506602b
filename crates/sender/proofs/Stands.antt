-- The sender's state and its ring's bytes, as what demand 3 speaks of: they stand for a queue after i frames.
use mathlib.Core.Path.{◌≡◌, refl}
use mathlib.Core.Option.{some}
use mathlib.Core.List.{List}
use Prim.Native.Nat.{ℕ, ◌%◌}
use Rattle.basics.specs.Lists.{Bytes}
use Rattle.link.specs.Link.{Queue, empty}
use Rattle.link.specs.Parsing.{parse, packets_in}
use Rattle.marks.specs.Queue.{used_in}
use Rattle.sender.specs.declared.Sender.{Sender}
use Rattle.sender.specs.Put.{fresh_sender}

pub record Stands (bytes : List ℕ) (sender : Sender) (i : ℕ) (queue : Queue) : Type 0 where
  pub are_bytes : Bytes bytes
  pub parsed : parse (used_in bytes sender.start sender.used) ≡ some queue
  pub number : sender.next.0 ≡ i % 65536

-- a fresh sender stands for the empty queue, whatever the bytes
pub fresh_stands : (bytes : List ℕ) → Bytes bytes → Stands bytes fresh_sender 0 empty
unfolding parse packets_in
fresh_stands bytes b = record { are_bytes = b; parsed = refl; number = refl }
