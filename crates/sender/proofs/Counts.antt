-- What `waiting` answers for a ring that is whole; and what follows: nothing waits in a fresh sender, and a packet that is put is one more, with its bytes.
use mathlib.Core.Path.{◌≡◌, refl, sym, ap, ap₂, ◌∙◌}
use mathlib.Core.Bool.{true}
use mathlib.Core.Option.{Option, none, some}
use mathlib.Core.List.{List, [], ◌∷◌, ◌++◌}
use Prim.Native.Nat.{ℕ, ◌+◌, ◌≤◌, ◌<◌}
use native.Mathlib.Omega.{arith}
use lib.ListN.{length}
use borrow.Author.Tests.{eq-eqb, lt-ltb, le-leb}
use Rattle.basics.specs.Lists.{Bytes, is_some}
use Rattle.refusals.specs.Table.{first_of, by}
use Rattle.refusals.proofs.Table.{by-zero}
use Rattle.link.specs.Link.{Packet, Queue, empty}
use Rattle.link.specs.Store.{marked}
use Rattle.link.specs.Parsing.{parse, packets_in, is_whole}
use Rattle.link.proofs.Machine.{with_packet}
use Rattle.ring.proofs.Laws.{ring_length}
use Rattle.marks.specs.Queue.{used_in, is_ring_whole, waiting_in, parts_with, bytes_in, packet_count, byte_count}
use Rattle.marks.proofs.Parsed.{queue_is}
use Rattle.sender.specs.declared.Sender.{Sender}
use Rattle.std.specs.Prelude.{Result, Ok}
use Rattle.refusals.specs.declared.Refusal.{Refusal}
use Rattle.sender.specs.declared.Counted.{Counted}
use Rattle.sender.specs.Put.{fresh_sender, put_refusal, put_sender, put_bytes, PutOutcome}
use Rattle.sender.specs.Waiting.{waiting_refusal, counted, waiting_answer, WaitingOutcome}
use Rattle.sender.proofs.Stands.{Stands}
use Rattle.sender.proofs.Putting.{put_passed, taken_zero, put_stands}

-- so many packets and bytes
abbrev pub counts : ℕ → ℕ → Counted
counts packets bytes = record { packets = packets; bytes = bytes }

-- ---- the answer for a ring that is whole
module _ (queue : List ℕ) (sender : Sender) where
  pub whole_counted : length queue ≡ 32768 → is_ring_whole queue sender.start sender.used ≡ true
      → WaitingOutcome queue sender (Ok (counted (waiting_in queue sender.start sender.used)))
  unfolding waiting_answer waiting_refusal first_of by
  whole_counted size e = rw (eq-eqb (length queue) 32768 size, e)

-- ---- what follows

-- the answer for a ring whose used bytes stand for a queue
module _ (bytes : List ℕ) (sender : Sender) (queue : Queue) (size : length bytes ≡ 32768) (within : sender.start < 32768) (most : sender.used ≤ 32768)
    (e : parse (used_in bytes sender.start sender.used) ≡ some queue) where
  is_whole_lem : is_ring_whole bytes sender.start sender.used ≡ true
  unfolding is_ring_whole is_whole
  is_whole_lem = rw (lt-ltb sender.start 32768 within, le-leb sender.used 32768 most) (ap is_some e)

  stands_counted : (answer : Result Counted Refusal) → WaitingOutcome bytes sender answer → answer ≡ Ok (counted queue)
  stands_counted answer o =
      o ∙ sym (whole_counted bytes sender size is_whole_lem) ∙ ap (λ (q : Queue). Ok (counted q)) (queue_is (used_in bytes sender.start sender.used) queue e)

-- Nothing waits in a fresh sender, whatever the bytes of its queue.
pub fresh_counted : (bytes : List ℕ) → length bytes ≡ 32768 → (answer : Result Counted Refusal) → WaitingOutcome bytes fresh_sender answer → answer ≡ Ok (counts 0 0)
unfolding parse packets_in
fresh_counted bytes size = stands_counted bytes fresh_sender empty size (omega arith) (omega arith) refl

-- a packet behind the others is one more part
parts_behind : (parts : List (List ℕ)) (packet : Packet)
    → (length (parts ++ (packet ∷ [])) ≡ length parts + 1) × (bytes_in (parts ++ (packet ∷ [])) ≡ bytes_in parts + length packet)
parts_behind [] packet = (refl, omega arith)
parts_behind (part ∷ parts) packet = let more = parts_behind parts packet in (omega (arith, more.0), omega (arith, more.1))

counted_behind : (queue : Queue) (packet : Packet) → counted (with_packet queue packet) ≡ counts (packet_count queue + 1) (byte_count queue + length packet)
counted_behind queue packet = go queue.rest queue.waiting
  where
    go : (rest : Option (List ℕ)) (packets : List Packet)
        → counted (record { rest = rest; waiting = packets ++ (packet ∷ []) })
        ≡ counts (length (parts_with rest packets) + 1) (bytes_in (parts_with rest packets) + length packet)
    go none packets = let more = parts_behind packets packet in ap₂ counts more.0 more.1
    go (some rest) packets = let more = parts_behind (rest ∷ packets) packet in ap₂ counts more.0 more.1

-- A packet that is taken is one more that waits, and its bytes are as many more as it is long; its mark is not counted.
pub put_counted : (bytes : List ℕ) (sender : Sender) (packet : List ℕ) (sender' : Sender) (bytes' : List ℕ) (i : ℕ) (queue : Queue)
    → PutOutcome bytes sender packet (Ok sender') bytes' → Bytes packet → Stands bytes sender i queue
    → (before after : Result Counted Refusal) → WaitingOutcome bytes sender before → WaitingOutcome bytes' sender' after
    → (before ≡ Ok (counted queue)) × (after ≡ Ok (counts (packet_count queue + 1) (byte_count queue + length packet)))
put_counted bytes sender packet sender' bytes' i queue outcome p s before after o o' =
    let number = put_refusal bytes sender.start sender.used packet in
    let taken = taken_zero number sender' (put_sender sender packet) outcome.answer in
    let passed = put_passed bytes sender.start sender.used packet taken.0 in
    let mark = marked (length packet) packet in
    let new : bytes' ≡ put_bytes bytes sender.start sender.used packet = outcome.bytes ∙ by-zero number _ bytes taken.0 in
    let kept = ring_length bytes sender.start sender.used mark (omega (arith, passed.long, passed.within))
    (omega (arith, passed.long, passed.room)) in
    let size : length bytes' ≡ 32768 = ap length new ∙ kept ∙ passed.long in
    let start : sender'.start ≡ sender.start = ap (λ (s : Sender). s.start) taken.1 in
    let used : sender'.used ≡ sender.used + 2 + length packet = ap (λ (s : Sender). s.used) taken.1 in
    let stands = (put_stands bytes sender packet sender' bytes' i queue outcome p s).1 in (
      stands_counted bytes sender queue passed.long passed.within (omega (arith, passed.room)) s.parsed before o,
      stands_counted bytes' sender' (with_packet queue packet) size (omega (arith, passed.within)) (omega (arith, passed.room)) stands.parsed after o'
          ∙ ap (λ (c : Counted). Ok c) (counted_behind queue packet),
    )
