-- How much waits: the walk that counts the packets of a ring that is whole, and how their number and their bytes make up the used ones.
use Rattle.std.proofs.Common.{◌≡◌, ℕ, zero, suc, ◌+◌, ◌-◌, ◌*◌, ◌%◌, ◌<◌, ◌≤◌, Bool, true, false, cond, List, [], ◌∷◌, length, take, drop, sym, refl, ap, ◌∙◌, ⊎_elim, arith, length-drop, length-take}
use mathlib.Core.Option.{Option, none, some}
use Rattle.basics.proofs.Tests.{lt_or_ge}
use Rattle.link.specs.Link.{Packet, Queue}
use Rattle.link.specs.Parsing.{mark_at, with_front, packets_in, parse, is_whole}
use Rattle.link.proofs.Store.{mark_from, is_length_from, Sized, sized, packets_at, packets_end}
use Rattle.link.proofs.RoundTrip.{Parsed, begun_front, plain_front, parsed}
use Rattle.marks.specs.Queue.{used_in, is_ring_whole, queue_in, waiting_in, parts_of, packet_count, bytes_in, byte_count}
use Rattle.marks.proofs.Parsed.{whole_parsed}
use Rattle.marks.proofs.Used.{used_length, ring_passed}

-- n marks lead from a place to the end of the bytes, each with its packet
abbrev pub Leads : List ℕ → ℕ → ℕ → Type 0
Leads bytes at zero = at ≡ length bytes
Leads bytes at (suc n) = (at + 2 + mark_from bytes at % 32768 ≤ length bytes) × Leads bytes (at + 2 + mark_from bytes at % 32768) n

-- these parts of packets stand in the bytes from a place on: as many marks lead to the end, and marks and parts fill what is there
pub record Counted (bytes : List ℕ) (at : ℕ) (parts : List (List ℕ)) : Type 0 where
  pub leads : Leads bytes at (length parts)
  pub fill : length bytes ≡ at + 2 * length parts + bytes_in parts

-- what was read of packets: a front one, and those behind it
front_read : (test : Bool) (front : Packet) (behind : Option (List Packet)) (packets : List Packet) → cond test (with_front front behind) none ≡ some packets
    → (test ≡ true) × ((later : List Packet) × ((behind ≡ some later) × (packets ≡ front ∷ later)))
front_read false front behind packets e = let z : ◌≡◌ {A = ℕ} 0 1 = cc in absurd (omega arith)
front_read true front none packets e = let z : ◌≡◌ {A = ℕ} 0 1 = cc in absurd (omega arith)
front_read true front (some later) packets e = (refl, (later, (refl, cc)))

module _ (bytes : List ℕ) where
  -- the packet at a place, as its mark has it
  abbrev packet_at : ℕ → Packet
  packet_at at = take (mark_from bytes at) (drop (at + 2) bytes)

  record Front (at : ℕ) (packets : List Packet) : Type 0 where
    later : List Packet
    says : Sized 9000 (mark_from bytes at) at (length bytes)
    behind : packets_in (drop (at + 2 + mark_from bytes at) bytes) ≡ some later
    is : packets ≡ packet_at at ∷ later

  front_of : (at : ℕ) (packets : List Packet) → at < length bytes → packets_in (drop at bytes) ≡ some packets → Front at packets
  front_of at packets l e =
      let n = mark_from bytes at in
      let read = front_read (is_length_from 9000 n bytes at) (packet_at at) (packets_in (drop (at + 2 + n) bytes)) packets (sym (packets_at bytes at l) ∙ e) in
      record { later = read.1.0; says = sized bytes at n 9000 read.0; behind = read.1.1.0; is = read.1.1.1 }

  -- a mark that says n, and the parts behind its own
  one_more : (at n : ℕ) (part : List ℕ) (parts : List (List ℕ)) → n ≡ mark_from bytes at % 32768 → at + 2 + n ≤ length bytes
      → part ≡ take n (drop (at + 2) bytes) → Counted bytes (at + 2 + n) parts → Counted bytes at (part ∷ parts)
  one_more at n part parts e room is behind =
      let long : length part ≡ n = ap length is ∙ simp (length-take, length-drop) (omega arith) in
      record { leads = rw (← e) (room, behind.leads); fill = omega (arith, behind.fill) }

  packets_counted : (packets : List Packet) (at : ℕ) → at ≤ length bytes → packets_in (drop at bytes) ≡ some packets → Counted bytes at packets
  packets_counted [] at within e =
      let end : at ≡ length bytes = ⊎_elim (λ l. absurd (some_there l)) (λ l. omega arith) (lt_or_ge at (length bytes)) in
      record { leads = end; fill = omega arith }
    where
      some_there : at < length bytes → ⊥
      some_there l =
          let front = (front_of at [] l e).is in
          let z : ◌≡◌ {A = ℕ} 0 1 = cc in
          omega arith
  packets_counted (packet ∷ packets) at within e = ⊎_elim (inside (packets_counted packets)) (λ l. absurd (none_there l)) (lt_or_ge at (length bytes))
    where
      none_there : length bytes ≤ at → ⊥
      none_there l =
          let nothing : some [] ≡ some (packet ∷ packets) = sym (packets_end bytes at l) ∙ e in
          let z : ◌≡◌ {A = ℕ} 0 1 = cc in
          omega arith

      inside : ((place : ℕ) → place ≤ length bytes → packets_in (drop place bytes) ≡ some packets → Counted bytes place packets) → at < length bytes
          → Counted bytes at (packet ∷ packets)
      inside behind l =
          let n = mark_from bytes at in
          let front = front_of at (packet ∷ packets) l e in
          let is = front.is in
          let rest : some front.later ≡ some packets = cc in
          let s = front.says in
          one_more at n packet packets (omega arith) s.room (cc) (behind (at + 2 + n) s.room (front.behind ∙ rest))

  -- all that was read: a packet that is begun, with the bit in its mark, and the others
  queue_counted : (queue : Queue) → parse bytes ≡ some queue → Counted bytes 0 (parts_of queue)
  queue_counted queue e = go (parsed bytes queue e)
    where
      go : Parsed bytes queue → Counted bytes 0 (parts_of queue)
      go (begun_front begun s rest waiting) =
          let n = mark_at bytes - 32768 in
          let behind = packets_counted queue.waiting (2 + n) s.room waiting in
          rw rest (one_more 0 n (take n (drop 2 bytes)) queue.waiting (omega arith) s.room refl behind)
      go (plain_front rest waiting) = rw rest (packets_counted queue.waiting 0 (omega arith) waiting)

-- ---- the walk

-- so many packets are still to be counted from a place on
pub record Left (bytes : List ℕ) (total at packets : ℕ) : Type 0 where
  pub left : ℕ
  pub adds : packets + left ≡ total
  pub leads : Leads bytes at left

module _ {bytes : List ℕ} {total at packets : ℕ} where
  counts_on : Left bytes total at packets → at < length bytes
      → (at + 2 + mark_from bytes at % 32768 ≤ length bytes) × Left bytes total (at + 2 + mark_from bytes at % 32768) (packets + 1)
  counts_on walk l = go walk.left walk.adds walk.leads
    where
      go : (left : ℕ) → packets + left ≡ total → Leads bytes at left
          → (at + 2 + mark_from bytes at % 32768 ≤ length bytes) × Left bytes total (at + 2 + mark_from bytes at % 32768) (packets + 1)
      go zero adds leads = absurd (omega arith)
      go (suc left) adds leads = (leads.0, record { left = left; adds = omega arith; leads = leads.1 })

  all_counted : Left bytes total at packets → length bytes ≤ at → packets ≡ total
  all_counted walk l = go walk.left walk.adds walk.leads
    where
      go : (left : ℕ) → packets + left ≡ total → Leads bytes at left → packets ≡ total
      go zero adds leads = omega arith
      go (suc left) adds leads = absurd (omega (arith, leads.0))

-- ---- bytes that stand for waiting packets

module _ (bytes : List ℕ) (whole : is_whole bytes ≡ true) where
  abbrev waiting : Queue
  waiting = queue_in bytes

  pub waits : Counted bytes 0 (parts_of waiting)
  waits = queue_counted bytes waiting (whole_parsed bytes whole)

  pub count_begins : Left bytes (packet_count waiting) 0 0
  count_begins = record { left = packet_count waiting; adds = omega arith; leads = waits.leads }

  module _ {at packets : ℕ} (walk : Left bytes (packet_count waiting) at packets) where
    pub count_ends : length bytes ≤ at → packets ≡ packet_count waiting
    count_ends l = all_counted walk l

    module _ (l : at < length bytes) where
      -- there is a mark, and room for another packet in the count
      pub mark_there : (at + 2 ≤ length bytes) × (packets ≤ length bytes)
      mark_there = (omega (arith, (counts_on walk l).0), omega (arith, waits.fill, walk.adds))

      pub count_goes_on : (mark : ℕ) → mark ≡ mark_from bytes at
          → Left bytes (packet_count waiting) (at + (2 + mark % 32768)) (packets + 1)
      count_goes_on mark e =
          let place : at + (2 + mark_from bytes at % 32768) ≡ at + 2 + mark_from bytes at % 32768 = omega arith in
          rw (e, place) (counts_on walk l).1

-- in a ring that is whole the used bytes are two for each packet's mark, and what waits of the packets
pub used_counted : (queue : List ℕ) (start used : ℕ) → length queue ≡ 32768 → is_ring_whole queue start used ≡ true
    → used ≡ 2 * packet_count (waiting_in queue start used) + byte_count (waiting_in queue start used)
used_counted queue start used size whole =
    let passed = ring_passed queue start used whole in
    omega (arith, used_length queue start used (omega (arith, passed.most)), (waits (used_in queue start used) passed.whole).fill)
