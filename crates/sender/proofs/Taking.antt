-- Filling the area off the queue, as the loop of `fill` goes: what stands in the area so far and what is filled in from here on give the whole.
use mathlib.Core.Path.{◌≡◌, refl, sym, ap, ap₂, ◌∙◌}
use mathlib.Core.Bool.{Bool, true, false}
use mathlib.Core.Option.{none}
use mathlib.Core.List.{List, ◌++◌, append_assoc, append-nil}
use Prim.Native.Nat.{ℕ, ◌+◌, ◌-◌, ◌%◌, ◌≤◌, ◌<◌}
use native.Mathlib.Omega.{arith}
use lib.Dec.{ltb}
use lib.ListN.{length, take, drop, length-drop, take-append-drop, drop_of_length-le, replicate-append-replicate}
use lib.Seq.{drop-drop, drop_at, length-take-le, take-length, drop-length}
use borrow.Author.Tests.{le-leb, lt-leb}
use Rattle.basics.specs.Lists.{zeros, Bytes}
use Rattle.basics.proofs.Lists.{zeros_length}
use Rattle.lent.specs.Written.{written}
use Rattle.lent.proofs.Written.{written_length, take_written, drop_written}
use Rattle.link.specs.Link.{Piece, Queue, IsQueue, Cut, cut_nothing, cut_last, piece_then}
use Rattle.link.specs.Store.{marked, layout_packets, layout}
use Rattle.link.specs.Parsing.{is_whole}
use Rattle.link.proofs.Store.{mark_from}
use Rattle.link.proofs.RoundTrip.{parse_queue, layout_back}
use Rattle.packing.specs.Rules.{record_bytes, records_bytes}
use Rattle.packing.specs.Filling.{fill}
use Rattle.marks.specs.Queue.{queue_in}
use Rattle.marks.proofs.Parsed.{whole_parsed}
use Rattle.std.specs.Prelude.{Some, None}
use Rattle.sender.specs.Filling.{FillOutcome}
use Rattle.sender.proofs.Front.{Front, front, nothing, inside, length_is, first_is, part, behind}

-- the loop's invariant
pub record Filling (bytes after : List ℕ) (at from : ℕ) : Type 0 where
  -- what waits from here on
  pub queue : Queue
  pub is_queue : IsQueue queue
  pub here : layout queue ≡ drop from bytes
  pub low : at ≤ 1908
  pub within : from ≤ length bytes
  pub long : length after ≡ 1908
  pub clear : drop at after ≡ zeros (1908 - at)
  pub records : records_bytes (fill 1908 (queue_in bytes)).pieces ≡ take at after ++ records_bytes (fill (1908 - at) queue).pieces
  pub left : (fill 1908 (queue_in bytes)).left ≡ (fill (1908 - at) queue).left

pub begins : (bytes after : List ℕ) → Bytes bytes → is_whole bytes ≡ true → after ≡ zeros 1908 → Filling bytes after 0 0
begins bytes after b w e =
    let p = whole_parsed bytes w in
    record {
      queue = queue_in bytes;
      is_queue = parse_queue bytes (queue_in bytes) p;
      here = layout_back bytes (queue_in bytes) b p;
      low = omega arith;
      within = omega arith;
      long = ap length e ∙ zeros_length 1908;
      clear = e;
      records = refl;
      left = refl;
    }

-- an area that holds records and zeros behind them
laid : (after records : List ℕ) (at : ℕ) → records ≡ take at after → at ≤ 1908 → length after ≡ 1908 → drop at after ≡ zeros (1908 - at)
    → after ≡ records ++ zeros (1908 - length records)
laid after records at e l h z =
    let size : length records ≡ at = ap length e ∙ length-take-le at after (omega arith) in
    rw (size, e, ← z) (sym (take-append-drop at after))

-- what a mark says of the packet behind it
pub record Reached (from long mark : ℕ) : Type 0 where
  pub low : 1 ≤ mark % 32768
  pub high : mark % 32768 ≤ 9000
  pub room : from + 2 + mark % 32768 ≤ long

-- zeros behind a part of zeros
zeros_behind : (n k : ℕ) (l : List ℕ) → k ≤ n → l ≡ zeros n → drop k l ≡ zeros (n - k)
zeros_behind n k l h e =
    let m : k + (n - k) ≡ n = omega arith in
    ap (drop k) (e ∙ ap zeros (sym m) ∙ sym (replicate-append-replicate k (n - k) 0)) ∙ drop_at (zeros k) (zeros (n - k)) k (zeros_length k)

-- one more record in the area, of n bytes
module _ (after : List ℕ) (at : ℕ) (piece : Piece) {after' : List ℕ} (e : after' ≡ written after at (record_bytes piece)) (h : length after ≡ 1908)
    (l : at + 2 + length piece.bytes ≤ 1908) where
  reach : at + length (record_bytes piece) ≡ at + 2 + length piece.bytes
  reach = omega arith

  record_long : length after' ≡ 1908
  record_long = ap length e ∙ written_length after at (record_bytes piece) (omega arith) ∙ h

  record_front : take (at + 2 + length piece.bytes) after' ≡ take at after ++ record_bytes piece
  record_front =
      ap (λ (n : ℕ). take n after') (sym reach) ∙ ap (take (at + length (record_bytes piece))) e ∙ take_written after at (record_bytes piece) (omega arith)

  record_clear : drop at after ≡ zeros (1908 - at) → drop (at + 2 + length piece.bytes) after' ≡ zeros (1908 - (at + 2 + length piece.bytes))
  record_clear z =
      let n = 2 + length piece.bytes in
      let k : at + length (record_bytes piece) + 0 ≡ at + 2 + length piece.bytes = omega arith in
      let j : at + length (record_bytes piece) + 0 ≡ at + n = omega arith in
      let s : 1908 - at - n ≡ 1908 - (at + 2 + length piece.bytes) = omega arith in
      ap (λ (m : ℕ). drop m after') (sym k) ∙ ap (drop (at + length (record_bytes piece) + 0)) e ∙ drop_written after at (record_bytes piece) (omega arith) 0
      ∙ ap (λ (m : ℕ). drop m after) j ∙ sym (drop-drop n at after) ∙ zeros_behind (1908 - at) n (drop at after) (omega arith) z ∙ ap zeros s

module _ {bytes after : List ℕ} {at from : ℕ} (i : Filling bytes after at from) where
  -- nothing more is filled in
  stops : fill (1908 - at) i.queue ≡ cut_nothing i.queue.rest i.queue.waiting → FillOutcome bytes (record { stop = from; unsent = None }) after
  stops e = record {
    filled = laid after (records_bytes (fill 1908 (queue_in bytes)).pieces) at
        (i.records ∙ ap (λ (c : Cut). take at after ++ records_bytes c.pieces) e ∙ append-nil (take at after)) i.low i.long i.clear;
    rest = ap layout (i.left ∙ ap (λ (c : Cut). c.left) e) ∙ i.here;
    inside = i.within;
    cut = tt;
  }

  pub ends : length bytes ≤ from → FillOutcome bytes (record { stop = from; unsent = None }) after
  ends l = stops (nothing (1908 - at) i.queue (ap length i.here ∙ length-drop from bytes ∙ omega arith))

  module _ (l : from < length bytes) where
    pub the_front : Front i.queue
    the_front = front i.queue i.is_queue (omega (arith, ap length i.here, length-drop from bytes))

    pub full : 1908 - at < 3 → FillOutcome bytes (record { stop = from; unsent = None }) after
    full s = stops (the_front.fills (1908 - at) ∙ rw (lt-leb 3 (1908 - at) s))

    -- the numbers of the front packet, by its mark
    pub reached : {mark : ℕ} → mark ≡ mark_from bytes from → Reached from (length bytes) mark
    reached {mark} e =
        let f = the_front in
        let n : mark % 32768 ≡ length f.bytes = ap (λ (m : ℕ). m % 32768) e ∙ length_is bytes from i.here f in
        record { low = omega (arith, f.low); high = omega (arith, f.high); room = omega (arith, inside bytes from i.here f) }

    abbrev f : Front i.queue
    f = the_front

    abbrev n : ℕ
    n = length f.bytes

    -- the piece of its first k bytes, and as the code takes it from the queue's bytes
    abbrev piece : Bool → ℕ → Piece
    piece last k = record { first = f.first; last = last; bytes = take k f.bytes }

    module _ {mark : ℕ} (e : mark ≡ mark_from bytes from) (r : 3 ≤ 1908 - at) where
      abbrev as_written : Bool → ℕ → Piece
      as_written last k = record { first = ltb mark 32768; last = last; bytes = take k (drop (from + 2) bytes) }

      n_is : mark % 32768 ≡ n
      n_is = ap (λ (m : ℕ). m % 32768) e ∙ length_is bytes from i.here f

      wrote : (last : Bool) (k j : ℕ) {after' : List ℕ} → j ≡ k → k ≤ n
          → after' ≡ written after at (record_bytes (as_written last j))
          → after' ≡ written after at (record_bytes (piece last k))
      wrote last k j q h w =
          w ∙ ap₂ (λ (b : Bool) (l : List ℕ). written after at (record_bytes (record { first = b; last = last; bytes = l })))
          (ap (λ (m : ℕ). ltb m 32768) e ∙ first_is bytes from i.here f)
          (ap (λ (m : ℕ). take m (drop (from + 2) bytes)) q ∙ part bytes from i.here f k h)

      -- a packet that fits: its record is written, and filling goes on behind it
      pub goes_on : {after' : List ℕ} → 2 + mark % 32768 ≤ 1908 - at
          → after' ≡ written after at (record_bytes (as_written true (mark % 32768)))
          → Filling bytes after' (at + 2 + mark % 32768) (from + 2 + mark % 32768)
      unfolding layout
      goes_on {after'} s w =
          let next : Queue = record { rest = none; waiting = f.packets } in
          let all : Piece = record { first = f.first; last = true; bytes = f.bytes } in
          let new : after' ≡ written after at (record_bytes all) =
          wrote true n (mark % 32768) n_is (omega arith) w
          ∙ ap (λ (l : List ℕ). written after at (record_bytes (record { first = f.first; last = true; bytes = l }))) (take-length f.bytes) in
          let room : 1908 - at - (2 + n) ≡ 1908 - (at + 2 + n) = omega arith in
          let fits : at + 2 + n ≤ 1908 = omega (arith, n_is) in
          let filled : fill (1908 - at) i.queue ≡ piece_then all (fill (1908 - (at + 2 + n)) next) =
          f.fills (1908 - at) ∙ rw (le-leb 3 (1908 - at) r, le-leb (2 + n) (1908 - at) (omega arith), room) in
          rw n_is (record {
            queue = next;
            is_queue = (tt, f.others);
            here = sym (behind bytes from i.here f n (omega arith) ∙ ap (λ (l : List ℕ). l ++ layout_packets f.packets) (drop-length f.bytes));
            low = fits;
            within = inside bytes from i.here f;
            long = record_long after at all new i.long fits;
            clear = record_clear after at all new i.long fits i.clear;
            records = i.records ∙ ap (λ (c : Cut). take at after ++ records_bytes c.pieces) filled
                ∙ sym (append_assoc (take at after) (record_bytes all) (records_bytes (fill (1908 - (at + 2 + n)) next).pieces))
                ∙ ap (λ (l : List ℕ). l ++ records_bytes (fill (1908 - (at + 2 + n)) next).pieces) (sym (record_front after at all new i.long fits));
            left = i.left ∙ ap (λ (c : Cut). c.left) filled;
          })

      -- a packet that does not fit: as much as fits is written, which fills the area
      pub cuts : {after' : List ℕ} → 1908 - at < 2 + mark % 32768
          → after' ≡ written after at (record_bytes (as_written false (1908 - at - 2)))
          → FillOutcome bytes (record { stop = from + 2 + (1908 - at - 2); unsent = Some (mark % 32768 - (1908 - at - 2)) }) after'
      unfolding layout
      cuts {after'} s w =
          let k = 1908 - at - 2 in
          let some_bytes : Piece = piece false k in
          let new : after' ≡ written after at (record_bytes some_bytes) =
          wrote false k k refl (omega (arith, n_is)) w in
          let size : length (take k f.bytes) ≡ k = length-take-le k f.bytes (omega (arith, n_is)) in
          let unsent : length (drop k f.bytes) ≡ mark % 32768 - k = length-drop k f.bytes ∙ omega (arith, n_is) in
          let fits : at + 2 + length (take k f.bytes) ≤ 1908 = omega (arith, size) in
          let whole : at + 2 + length (take k f.bytes) ≡ 1908 = omega (arith, size) in
          let filled : fill (1908 - at) i.queue ≡ cut_last some_bytes (drop k f.bytes) f.packets =
          f.fills (1908 - at) ∙ rw (le-leb 3 (1908 - at) r, lt-leb (2 + n) (1908 - at) (omega (arith, n_is))) in
          let long : length after' ≡ 1908 = record_long after at some_bytes new i.long fits in
          let records : records_bytes (fill 1908 (queue_in bytes)).pieces ≡ take 1908 after' =
          i.records ∙ ap (λ (c : Cut). take at after ++ records_bytes c.pieces) filled
          ∙ ap (λ (l : List ℕ). take at after ++ l) (append-nil (record_bytes some_bytes))
          ∙ sym (record_front after at some_bytes new i.long fits) ∙ ap (λ (m : ℕ). take m after') whole in
          record {
            filled =
                laid after' (records_bytes (fill 1908 (queue_in bytes)).pieces) 1908 records (omega arith) long
                (drop_of_length-le after' {i = 1908} (omega arith));
            rest = ap layout (i.left ∙ ap (λ (c : Cut). c.left) filled)
                ∙ ap (λ (m : ℕ). marked (32768 + m) (drop k f.bytes ++ layout_packets f.packets)) unsent
                ∙ ap (marked (32768 + (mark % 32768 - k))) (sym (behind bytes from i.here f k (omega (arith, n_is))));
            inside = omega (arith, n_is, inside bytes from i.here f);
            cut = (omega (arith, n_is, f.high), omega arith);
          }
