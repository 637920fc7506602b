-- Reading the whole list by `entry` and `packet` gives the packets that its bytes stand for: those that apply wrote, in order, and then the end.
use mathlib.Core.Path.{◌≡◌, refl, sym, ap, ◌∙◌}
use mathlib.Core.Bool.{Bool, true, false}
use mathlib.Core.Logic.{⊎_elim}
use mathlib.Core.Option.{none, some}
use mathlib.Core.List.{List}
use Prim.Native.Nat.{ℕ, zero, suc, ◌+◌, ◌-◌, ◌≤◌, ◌<◌}
use native.Mathlib.Omega.{arith}
use lib.ListN.{length, take, drop}
use Rattle.basics.proofs.Tests.{lt_or_ge}
use Rattle.link.specs.Link.{Packet, ArePackets}
use Rattle.link.specs.Store.{layout_packets}
use Rattle.link.specs.Parsing.{with_front, packets_in}
use Rattle.link.proofs.Store.{mark_from, is_length_from, sized, packets_at, packets_end}
use Rattle.link.proofs.RoundTrip.{packets_back}
use Rattle.list.specs.Entries.{length_at, packet_at, packets_from, packets_read}
use Rattle.list.proofs.Lengths.{no_length, is_length_lem}
use Rattle.list.proofs.Calls.{at_end, at_refusal, at_packet}

module _ (list : List ℕ) where
  -- a mark that is no length, or for which there is no room
  no_entry : (i : ℕ) → is_length_from 9000 (mark_from list i) list i ≡ false → 0 ≡ length_at list i
  no_entry i e = no_length list i (mark_from list i) refl false (sym e) refl

  -- an entry that is refused: none is read
  refused_there : (k i : ℕ) → i < length list → 0 ≡ length_at list i → packets_from (suc k) list i ≡ none
  refused_there k i inside e = rw (← at_refusal list i (λ z. omega arith) 0 e refl)

  -- a packet, and those behind it
  packet_there_lem : (k i : ℕ) → i < length list → (n : ℕ) → n ≡ length_at list i → 1 ≤ n
      → packets_from (suc k) list i ≡ with_front (take n (drop (i + 2) list)) (packets_from k list (i + 2 + n))
  unfolding packet_at
  packet_there_lem k i inside n e low = rw (← at_packet list i (λ z. omega arith) n e (λ z. omega arith), ← e)

  -- reading from a position on gives what stands there, if k - 1 readings do so from each later one
  abbrev Gives : ℕ → ℕ → Type 0
  Gives k i = i ≤ length list → length list - i < k → packets_from k list i ≡ packets_in (drop i list)

  one_more : (k i : ℕ) → ((j : ℕ) → Gives k j) → Gives (suc k) i
  one_more k i later within enough = ⊎_elim (λ inside. entry_there (is_length_from 9000 n list i) inside refl) end_there (lt_or_ge i (length list))
    where
      n : ℕ
      n = mark_from list i

      end_there : length list ≤ i → packets_from (suc k) list i ≡ packets_in (drop i list)
      end_there h = rw (← at_end list i (omega arith)) (sym (packets_end list i h))

      entry_there : (t : Bool) → i < length list → is_length_from 9000 n list i ≡ t → packets_from (suc k) list i ≡ packets_in (drop i list)
      entry_there false inside e = refused_there k i inside (no_entry i e) ∙ sym (packets_at list i inside ∙ rw e)
      entry_there true inside e =
          let s = sized list i n 9000 e in
          packet_there_lem k i inside n (is_length_lem list i n refl true (sym e) refl) s.low
          ∙ ap (with_front (take n (drop (i + 2) list))) (later (i + 2 + n) s.room (omega arith))
          ∙ sym (packets_at list i inside ∙ rw e)

  from_position : (k i : ℕ) → Gives k i
  from_position zero i = λ within enough. absurd (omega arith)
  from_position (suc k) i = one_more k i (from_position k)

-- For all bytes: reading gives the packets that they stand for, and none where they stand for none.
pub packets_read_lem : (list : List ℕ) → packets_read list ≡ packets_in list
unfolding packets_read
packets_read_lem list = from_position list (suc (length list)) 0 (omega arith) (omega arith)

-- The list that apply wrote is read as exactly its packets, and then the end.
pub list_read : (packets : List Packet) → ArePackets packets → packets_read (layout_packets packets) ≡ some packets
list_read packets h = packets_read_lem (layout_packets packets) ∙ packets_back packets h
