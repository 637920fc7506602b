-- What the code does: the walk of the marks, stretch by stretch. The contracts of the private functions cite these words; `proofs/` shows that they come to
-- `is_ring_whole`, so whoever reads that need not believe anything here.
use Rattle.std.specs.Prelude.{◌≡◌, ℕ, ◌+◌, ◌-◌, ◌*◌, ◌≤◌, Bool, cond, ◌&&◌, List, ◌++◌, length, drop, nat_le, nat_lt}
use Rattle.basics.specs.Sizes.{most_packet, queue_size}
use Rattle.basics.specs.Lists.{is_some}
use Rattle.link.specs.Parsing.{mark_at, packets_in}
use Rattle.ring.specs.Ring.{round_from}

-- the place behind a packet of n bytes whose mark stands at a place; nowhere, which is behind every ring, where n is no length
abbrev pub behind_packet : ℕ → ℕ → ℕ → ℕ
behind_packet at n nowhere = cond (nat_le 1 n && nat_le n most_packet) (at + 2 + n) nowhere

-- the place where the walk goes on behind the buffer's end: over a mark that the end parts, where it came to one
abbrev pub over_end : List ℕ → ℕ → ℕ → ℕ
over_end queue start at = cond (nat_lt at (queue_size - start)) (behind_packet at (mark_at (drop at (round_from start queue))) (2 * queue_size)) at

-- a place is not behind the bytes, and packets, none of them begun, fill them from there on
unfoldable pub leads_to_end : List ℕ → ℕ → Bool
leads_to_end bytes at = nat_le at (length bytes) && is_some (packets_in (drop at bytes))

-- The marks of a stretch lead from one place to another: whatever stands behind the stretch in the ring, both lead to the end, or neither.
pub record LeadsOn (stretch : List ℕ) (from at : ℕ) : Type 0 where
  pub alike : (rest : List ℕ) → length stretch + length rest ≤ queue_size → leads_to_end (stretch ++ rest) at ≡ leads_to_end (stretch ++ rest) from
