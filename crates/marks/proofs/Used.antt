-- The used bytes of a ring: how many they are, where each and where a mark stands, and what a whole ring is.
use Rattle.std.proofs.Common.{◌≡◌, ℕ, ◌+◌, ◌-◌, ◌*◌, ◌%◌, ◌<◌, ◌≤◌, true, ◌&&◌, ltb, leb, List, ◌++◌, length, get_or, take, drop, sym, ap, ◌∙◌, ap₂, arith, length-take-le, get_or-take, ltb-true, leb-true}
use Rattle.basics.proofs.Tests.{left_true, right_true}
use Rattle.link.specs.Parsing.{mark_at, is_whole}
use Rattle.link.proofs.Store.{mark_from, mark_from_lem}
use Rattle.ring.specs.Ring.{round_from}
use Rattle.ring.proofs.Laws.{round_length, byte_near, byte_far, part_near, part_over}
use Rattle.ring.proofs.Places.{round_stands}
use Rattle.marks.specs.Queue.{used_in, is_ring_whole}

module _ (queue : List ℕ) (start used : ℕ) (u : used ≤ length queue) where
  pub used_length : length (used_in queue start used) ≡ used
  used_length = length-take-le used (round_from start queue) (rw (round_length start queue) u)

  -- as they are seen
  pub seen_length : (bytes : List ℕ) → used_in queue start used ≡ bytes → used ≡ length bytes
  seen_length bytes e = sym used_length ∙ ap length e

  -- a mark within them
  pub used_mark : (at : ℕ) → at + 2 ≤ used
      → mark_at (drop at (round_from start queue)) ≡ mark_from (used_in queue start used) at
  used_mark at h =
      mark_from_lem (round_from start queue) at
      ∙ sym (ap₂ (λ (x y : ℕ). x * 256 + y) (get_or-take used (round_from start queue) at 0 (omega arith))
      (get_or-take used (round_from start queue) (at + 1) 0 (omega arith)))

-- The used bytes as parts of the buffer: one, or one up to its end and one behind it.
module _ (queue : List ℕ) (start used : ℕ) (s : start ≤ length queue) where
  from_start : start + 0 ≡ start
  from_start = omega arith

  pub used_near : used ≤ length queue - start → take (start + used - start) (drop start queue) ≡ used_in queue start used
  used_near n =
      let many : start + used - start ≡ used = omega arith in
      ap₂ (λ (k i : ℕ). take k (drop i queue)) many (sym from_start) ∙ part_near start queue s 0 used (omega arith)

  pub used_far : (near : ℕ) → near ≡ length queue - start → near ≤ used → used ≤ length queue
      → take (length queue - start) (drop start queue) ++ take (used - near) queue ≡ used_in queue start used
  used_far near e f u =
      ap₂ (λ (k i : ℕ). take k (drop i queue) ++ take (used - near) queue) (sym e) (sym from_start)
      ∙ part_over start queue 0 used near s (omega arith) (omega arith) f

-- a mark as it stands in the buffer: before its end, behind it, or parted by it
module _ (queue : List ℕ) (start at : ℕ) (s : start ≤ length queue) (l : at + 2 ≤ length queue) where
  abbrev near : ℕ
  near = length queue - start

  of_bytes : {high low : ℕ} → high ≡ get_or (round_from start queue) at 0 → low ≡ get_or (round_from start queue) (at + 1) 0
      → high * 256 + low ≡ mark_at (drop at (round_from start queue))
  of_bytes h k = ap₂ (λ (x y : ℕ). x * 256 + y) h k ∙ sym (mark_from_lem (round_from start queue) at)

  pub mark_near : at + 1 < near → mark_from queue (start + at) ≡ mark_at (drop at (round_from start queue))
  mark_near n =
      let next : start + at + 1 ≡ start + (at + 1) = omega arith in
      of_bytes (byte_near start queue s at (omega arith)) (ap (λ (i : ℕ). get_or queue i 0) next ∙ byte_near start queue s (at + 1) n)

  pub mark_far : near ≤ at → mark_from queue (at - near) ≡ mark_at (drop at (round_from start queue))
  mark_far f =
      let next : at - near + 1 ≡ at + 1 - near = omega arith in
      of_bytes (byte_far start queue s at f (omega arith)) (ap (λ (i : ℕ). get_or queue i 0) next ∙ byte_far start queue s (at + 1) (omega arith) (omega arith))

  pub mark_parted : at + 1 ≡ near → get_or queue (start + at) 0 * 256 + get_or queue 0 0 ≡ mark_at (drop at (round_from start queue))
  mark_parted e =
      let first : 0 ≡ at + 1 - near = omega arith in
      of_bytes (byte_near start queue s at (omega arith)) (ap (λ (i : ℕ). get_or queue i 0) first ∙ byte_far start queue s (at + 1) (omega arith) (omega arith))

-- Waiting byte i stands at (start + i) modulo 32,768.
pub waiting_byte : (queue : List ℕ) (start used i : ℕ) → length queue ≡ 32768 → start < 32768 → used ≤ 32768 → i < used
    → get_or (used_in queue start used) i 0 ≡ get_or queue ((start + i) % 32768) 0
waiting_byte queue start used i long s u l = get_or-take used (round_from start queue) i 0 l ∙ round_stands queue start i long s (omega arith)

-- what is known of a ring that is whole
pub record RingPassed (queue : List ℕ) (start used : ℕ) : Type 0 where
  pub within : start < 32768
  pub most : used ≤ 32768
  pub whole : is_whole (used_in queue start used) ≡ true

pub ring_passed : (queue : List ℕ) (start used : ℕ) → is_ring_whole queue start used ≡ true → RingPassed queue start used
unfolding is_ring_whole
ring_passed queue start used e =
    let s = ltb start 32768 in
    let u = leb used 32768 in
    let w = is_whole (used_in queue start used) in
    let front = left_true (s && u) w e in
    record { within = ltb-true start 32768 (left_true s u front); most = leb-true used 32768 (right_true s u front); whole = right_true (s && u) w e }
