-- Filling as the code goes, round the ring: the laws of Taking.antt for the used bytes.
use mathlib.Core.Path.{◌≡◌, refl, sym, ap, ◌∙◌}
use mathlib.Core.Bool.{Bool, true, false}
use mathlib.Core.List.{List}
use Prim.Native.Nat.{ℕ, ◌+◌, ◌-◌, ◌%◌, ◌≤◌, ◌<◌, min}
use native.Mathlib.Omega.{arith}
use lib.Dec.{eqb, ltb}
use borrow.Author.Tests.{eq-eqb, ne_eqb}
use lib.ListN.{length, take, drop}
use lib.Seq.{take-take}
use Rattle.basics.specs.Lists.{zeros, Bytes}
use Rattle.basics.proofs.Lists.{bytes_take, drop_take}
use Rattle.lent.specs.Written.{written}
use Rattle.link.specs.Link.{Piece}
use Rattle.link.specs.Parsing.{mark_at, is_whole}
use Rattle.link.proofs.Store.{mark_from}
use Rattle.packing.specs.Rules.{record_bytes}
use Rattle.ring.specs.Ring.{round_from}
use Rattle.ring.proofs.Laws.{round_length, round_bytes}
use Rattle.marks.specs.Queue.{used_in}
use Rattle.marks.proofs.Used.{used_length, used_mark}
use Rattle.std.specs.Prelude.{Some, None}
use Rattle.sender.specs.Filling.{FillOutcome}
use Rattle.sender.proofs.Taking as taking
use Rattle.sender.proofs.Taking.{Filling, Reached}

-- the loop's invariant
pub record Round (queue : List ℕ) (start used : ℕ) (area : List ℕ) (at from : ℕ) : Type 0 where
  pub inside : used ≤ length queue
  pub filling : Filling (used_in queue start used) area at from

pub begins : (queue : List ℕ) (start used : ℕ) (area : List ℕ)
    → Bytes queue → used ≤ length queue → is_whole (used_in queue start used) ≡ true → area ≡ zeros 1908
    → Round queue start used area 0 0
begins queue start used area b u w z = record {
  inside = u;
  filling = taking.begins (used_in queue start used) area (bytes_take used (round_from start queue) (round_bytes start queue b)) w z;
}

module _ {queue : List ℕ} {start used : ℕ} {area : List ℕ} {at from : ℕ} (i : Round queue start used area at from) where
  abbrev bytes : List ℕ
  bytes = used_in queue start used

  long : length bytes ≡ used
  long = used_length queue start used i.inside

  pub ends : used ≤ from → FillOutcome bytes (record { stop = from; unsent = None }) area
  ends l = taking.ends i.filling (omega (arith, long))

  module _ (l : from < used) where
    before_end : from < length bytes
    before_end = omega (arith, long)

    pub full : 1908 - at < 3 → FillOutcome bytes (record { stop = from; unsent = None }) area
    full = taking.full i.filling before_end

    -- a mark stands here
    pub mark_room : from + 2 ≤ used
    mark_room = omega (arith, long, (taking.reached i.filling before_end refl).room)

    module _ {mark : ℕ} (e : mark ≡ mark_at (drop from (round_from start queue))) where
      is_mark_lem : mark ≡ mark_from bytes from
      is_mark_lem = e ∙ used_mark queue start used i.inside from mark_room

      pub reached : Reached from used mark
      reached =
          let k = taking.reached i.filling before_end is_mark_lem in
          record { low = k.low; high = k.high; room = omega (arith, long, k.room) }

      -- the piece of n bytes, as the code takes them off the ring and as they stand among the used bytes
      abbrev piece_of : Bool → ℕ → List ℕ → Piece
      piece_of last n all = record { first = ltb mark 32768; last = last; bytes = take n (drop (from + 2) all) }

      wrote : (last : Bool) (n : ℕ) {area' : List ℕ} → from + 2 + n ≤ used → area' ≡ written area at (record_bytes (piece_of last n (round_from start queue)))
          → area' ≡ written area at (record_bytes (piece_of last n bytes))
      wrote last n h w =
          let round = round_from start queue in
          let part : take n (drop (from + 2) bytes) ≡ take n (drop (from + 2) round) =
          ap (take n) (drop_take (from + 2) used round (omega arith) (omega (arith, i.inside, round_length start queue)))
          ∙ take-take n (used - (from + 2)) (drop (from + 2) round) (omega arith) in
          w ∙ ap (λ (content : List ℕ). written area at (record_bytes (record { first = ltb mark 32768; last = last; bytes = content }))) (sym part)

      -- a record of n bytes is written: of the whole packet, or of as many as there is room for
      module _ (r : 3 ≤ 1908 - at) {n : ℕ} (m : n ≡ min (mark % 32768) (1908 - at - 2)) {area' : List ℕ}
          (w : area' ≡ written area at (record_bytes (piece_of (eqb n (mark % 32768)) n (round_from start queue)))) where
        pub goes_on : mark % 32768 ≤ n → Round queue start used area' (at + 2 + n) (from + 2 + n)
        goes_on all =
            let same : n ≡ mark % 32768 = omega arith in
            let whole = rw (eq-eqb n (mark % 32768) same, same) at w in
            rw same (record {
              inside = i.inside;
              filling = taking.goes_on i.filling before_end is_mark_lem r (omega arith) (wrote true (mark % 32768) reached.room whole);
            })

        pub cuts : n < mark % 32768 → FillOutcome bytes (record { stop = from + 2 + n; unsent = Some (mark % 32768 - n) }) area'
        cuts some_bytes =
            let same : n ≡ 1908 - at - 2 = omega arith in
            let part = rw (ne_eqb n (mark % 32768) (λ z. omega arith), same) at w in
            rw same (taking.cuts i.filling before_end is_mark_lem r (omega arith) (wrote false (1908 - at - 2) (omega (arith, reached.room)) part))
