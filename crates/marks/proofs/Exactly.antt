-- Whole (refusal 3) in its plain form, with `layout` and `IsQueue` alone: the used bytes are the layout of a queue, and that queue is the one that waits.
-- `queue_exactly` of demand 2 carries both.
use Rattle.std.proofs.Common.{◌≡◌, ℕ, ◌<◌, ◌≤◌, true, ◌↔◌, List, sym, ap, ◌∙◌, lt-ltb, le-leb}
use mathlib.Core.Option.{some}
use Rattle.basics.specs.Lists.{Bytes, is_some}
use Rattle.basics.specs.Sizes.{queue_size}
use Rattle.basics.proofs.Lists.{bytes_take}
use Rattle.link.specs.Link.{Queue, IsQueue}
use Rattle.link.specs.Store.{layout}
use Rattle.link.specs.Parsing.{parse, is_whole}
use Rattle.link.proofs.RoundTrip.{parse_back, parse_iff}
use Rattle.ring.specs.Ring.{round_from}
use Rattle.ring.proofs.Laws.{round_bytes}
use Rattle.marks.specs.Queue.{used_in, is_ring_whole, waiting_in}
use Rattle.marks.proofs.Parsed.{whole_parsed, queue_is}
use Rattle.marks.proofs.Used.{ring_passed}

-- start and count are those of a ring, and its used bytes are the layout of a queue
abbrev pub HoldsQueue : List ℕ → ℕ → ℕ → Type 0
HoldsQueue queue start used = (start < queue_size) × (used ≤ queue_size) × ((q : Queue) × (IsQueue q × (layout q ≡ used_in queue start used)))

module _ (queue : List ℕ) (start used : ℕ) where
  holds_queue : Bytes queue → is_ring_whole queue start used ≡ true → HoldsQueue queue start used
  holds_queue bytes e =
      let passed = ring_passed queue start used e in
      let waits = used_in queue start used in
      let waits_bytes = bytes_take used (round_from start queue) (round_bytes start queue bytes) in
      let are = (parse_iff waits (waiting_in queue start used) waits_bytes).0 (whole_parsed waits passed.whole) in
      (passed.within, passed.most, (waiting_in queue start used, are))

  parsed_so : (q : Queue) → IsQueue q → layout q ≡ used_in queue start used → parse (used_in queue start used) ≡ some q
  parsed_so q is_queue laid = ap parse (sym laid) ∙ parse_back q is_queue

  queue_holds : HoldsQueue queue start used → is_ring_whole queue start used ≡ true
  unfolding is_ring_whole is_whole
  queue_holds h = rw (lt-ltb start 32768 h.0, le-leb used 32768 h.1) (ap is_some (parsed_so h.2.0 h.2.1.0 h.2.1.1))

  pub whole_exactly : Bytes queue → (is_ring_whole queue start used ≡ true) ↔ HoldsQueue queue start used
  whole_exactly bytes = (holds_queue bytes, queue_holds)

  pub waiting_exactly : (q : Queue) → IsQueue q → layout q ≡ used_in queue start used → waiting_in queue start used ≡ q
  waiting_exactly q is_queue laid = queue_is (used_in queue start used) q (parsed_so q is_queue laid)
