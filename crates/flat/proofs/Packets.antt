-- The place of a packet that C gets is the place of the library's `packet`, and the bytes there are those that it hands back.
use mathlib.Core.Path.{◌≡◌, refl, sym}
use mathlib.Core.Bool.{Bool, true, false}
use mathlib.Core.List.{List}
use Prim.Native.Nat.{ℕ, ◌+◌}
use native.Mathlib.Omega.{arith}
use lib.Dec.{eqb}
use lib.ListN.{length, take, drop}
use borrow.Author.Tests.{eqb-true}
use Rattle.refusals.specs.Table.{first_of, by}
use Rattle.list.specs.Entries.{length_at, entry_refusal, entry_answer, packet_at, place_at}
use Rattle.list.proofs.Lengths.{no_mark}
use Rattle.flat.specs.Answers.{flat_packet}
use Rattle.flat.specs.declared.FlatPacket.{FlatPacket}

pub record Placed (list : List ℕ) (position : ℕ) (place : FlatPacket) : Type 0 where
  pub bytes : take place.length (drop place.start list) ≡ packet_at list position
  pub start : place.start ≡ place_at list position

module _ (list : List ℕ) (position : ℕ) where
  empty : length_at list position ≡ 0 → Placed list position (record { start = 0; length = 0 })
  unfolding packet_at place_at
  empty e = record { bytes = rw e; start = rw e }

  whole : eqb (length_at list position) 0 ≡ false → Placed list position (record { start = position + 2; length = length_at list position })
  unfolding packet_at place_at
  whole e = record { bytes = refl; start = rw e }

  pub packet_placed : Placed list position (flat_packet (entry_answer list position))
  unfolding entry_answer entry_refusal first_of by
  packet_placed = go (eqb position (length list)) refl (eqb (length_at list position) 0) refl
    where
      go : (t : Bool) → eqb position (length list) ≡ t → (u : Bool) → eqb (length_at list position) 0 ≡ u
          → Placed list position (flat_packet (entry_answer list position))
      go true e u f =
          let end = eqb-true position (length list) e in
          rw e (empty (sym (no_mark list position (omega arith))))
      go false e true f = rw (e, f) (empty (eqb-true (length_at list position) 0 f))
      go false e false f = rw (e, f) (whole f)
