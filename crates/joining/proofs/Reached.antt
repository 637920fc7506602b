-- Where the loop over the records stands: those read so far completed the packets `done` and left the held part; those still to read do the rest.
use mathlib.Core.Path.{◌≡◌, refl, sym, ap, ◌∙◌, subst}
use mathlib.Core.Bool.{Bool, true, false}
use mathlib.Core.Option.{Option, none, some}
use mathlib.Core.List.{List, [], ◌∷◌, ◌++◌, append-nil, append_assoc}
use Prim.Native.Nat.{ℕ, ◌+◌, ◌≤◌, ◌<◌}
use native.Mathlib.Nat.{zero-add}
use native.Mathlib.Omega.{arith}
use lib.ListN.{length, take, length-append}
use lib.Seq.{length-take-le}
use Rattle.lent.specs.Written.{written}
use Rattle.lent.proofs.Written.{take_written, written_append, written_length, written_nothing, written_own}
use Rattle.link.specs.Link.{Packet, Piece, Step, on_piece, step_then, on_pieces, fits, fits_piece}
use Rattle.link.specs.Store.{layout_packets}
use Rattle.link.proofs.Hold.{AllFirst, Shape}
use Rattle.packing.specs.declared.Record.{Record}
use Rattle.std.specs.Prelude.{Some, None, Ok, Err}
use Rattle.refusals.specs.declared.Refusal.{Refusal}
use Rattle.packing.specs.Records.{record_at, piece_of, with_piece, read_from, read}
use Rattle.packing.proofs.Records.{Lies, lies, piece_length, read_record, read_end, read_against, read_shape}
use Rattle.joining.proofs.First.{from_start}
use Rattle.joining.specs.declared.growing.Joined.{Joined}
use Rattle.joining.specs.Growing.{Ready, StepOutcome}
use Rattle.joining.specs.Joining.{Joinable, JoinOutcome}
use Rattle.link.proofs.Store.{lists_append}
use Rattle.joining.proofs.Pieces.{step_size, step_few, step_last, step_held, first_fits_any, first_shape}

-- ---- the invariant

pub record Reached (area : List ℕ) (before : ℕ) (hold₀ list₀ hold list : List ℕ) (at : ℕ) (joined : Joined) : Type 0 where
  pub all : List Piece
  pub done : List Packet
  pub rest : List Piece
  pub area_long : length area ≡ 1908
  pub low : at ≤ 1908
  pub whole : read area ≡ some all
  pub to_read : read_from area at ≡ some rest
  pub shape : Shape rest
  pub fitting : fits (take joined.held hold) rest ≡ true
  pub step : on_pieces (take before hold₀) all ≡ step_then (record { held = []; out = done }) (on_pieces (take joined.held hold) rest)
  pub held_low : joined.held ≤ 8999
  pub hold_long : length hold ≡ 9000
  pub hold_is : hold ≡ written hold₀ 0 (take joined.held hold)
  -- only the final record may lack "last", so no record reads what another wrote into the hold
  pub hold_kept : at < 1908 → hold ≡ hold₀
  pub list_is : list ≡ written list₀ 0 (layout_packets done)
  pub packets : joined.packets ≡ length done
  pub listed : joined.listed ≡ length (layout_packets done)
  pub room : joined.listed + joined.held ≤ before + at
  pub few : joined.packets ≤ at

module _ (area : List ℕ) (before : ℕ) (hold₀ list₀ : List ℕ) (j : Joinable area before hold₀ list₀) where
  pub begins : Reached area before hold₀ list₀ hold₀ list₀ 0 (record { held = before; packets = 0; listed = 0 })
  begins =
      let start = from_start area j.pieces j.whole in
      record {
        all = j.pieces;
        done = [];
        rest = j.pieces;
        area_long = start.0;
        low = omega arith;
        whole = j.whole;
        to_read = start.1;
        shape = read_shape area j.pieces j.whole;
        fitting = j.fitting;
        step = refl;
        held_low = j.low;
        hold_long = j.long;
        hold_is = sym (written_own hold₀ before (omega (arith, j.low, j.long)));
        hold_kept = λ h. refl;
        list_is = sym (written_nothing list₀ 0);
        packets = refl;
        listed = refl;
        room = omega arith;
        few = omega arith;
      }

-- ---- a turn

module _ {area : List ℕ} {before : ℕ} {hold₀ list₀ hold list : List ℕ} {at : ℕ} {joined : Joined}
    (r : Reached area before hold₀ list₀ hold list at joined) where
  held_length : length (take joined.held hold) ≡ joined.held
  held_length = length-take-le joined.held hold (omega (arith, r.held_low, r.hold_long))

  pub list_length : before ≤ 8999 → 10907 ≤ length list₀ → length list ≡ length list₀
  list_length low long = ap length r.list_is ∙ written_length list₀ 0 (layout_packets r.done) (omega (arith, r.room, r.listed, r.low))

  -- at the end of the records nothing is left to read
  pub ends : record_at area at ≡ Ok None → JoinOutcome area before hold₀ list₀ joined hold list
  ends here pieces e =
      let are : r.all ≡ pieces = let f : some r.all ≡ some pieces = sym r.whole ∙ e in cc in
      let held = take joined.held hold in
      let none_left : r.rest ≡ [] = let e : some r.rest ≡ some [] = sym r.to_read ∙ read_end area at here in cc in
      let step : on_pieces (take before hold₀) pieces ≡ record { held = held; out = r.done } =
      sym (ap (on_pieces (take before hold₀)) are) ∙ r.step ∙ ap (λ ps. step_then (record { held = []; out = r.done }) (on_pieces held ps)) none_left
      ∙ ap (λ out. record { held = held; out = out }) (append-nil r.done) in
      record {
        held = sym (ap (λ (s : Step). length s.held) step ∙ held_length);
        packets = r.packets ∙ sym (ap (λ (s : Step). length s.out) step) ∙ sym (zero-add _);
        listed = r.listed ∙ sym (ap (λ (s : Step). length (layout_packets s.out)) step) ∙ sym (zero-add _);
        hold_bytes = r.hold_is ∙ sym (ap (λ (s : Step). written hold₀ 0 s.held) step);
        list_bytes = r.list_is ∙ sym (ap (λ (s : Step). written list₀ 0 (layout_packets s.out)) step);
      }

  pub not_against : (refusal : Refusal) → record_at area at ≡ Err refusal → ⊥
  not_against refusal here =
      let e : some r.rest ≡ none = sym r.to_read ∙ read_against area at refusal here in
      let z : ◌≡◌ {A = ℕ} 0 1 = cc in
      omega arith

  module _ (found : Record) (here : record_at area at ≡ Ok (Some found)) where
    lie : Lies area at found
    lie = lies area at found here

    abbrev bytes : List ℕ
    bytes = (piece_of area found).bytes

    -- the pieces behind this record
    record Behind : Type 0 where
      pub pieces : List Piece
      pub to_read : read_from area (found.start + found.length) ≡ some pieces
      pub is : r.rest ≡ piece_of area found ∷ pieces

    behind : Behind
    behind = go (read_from area (found.start + found.length)) refl (sym r.to_read ∙ read_record area at found here)
      where
        go : (o : Option (List Piece)) → read_from area (found.start + found.length) ≡ o → some r.rest ≡ with_piece (piece_of area found) o → Behind
        go none e f = absurd (let z : ◌≡◌ {A = ℕ} 0 1 = cc in omega arith)
        go (some pieces) e f = record { pieces = pieces; to_read = e; is = cc }

    piece_fits : fits_piece (take joined.held hold) found.first found.last bytes ≡ true
    piece_fits = sym (ap (fits (take joined.held hold)) behind.is) ∙ r.fitting

    -- the record can be joined
    pub ready : before ≤ 8999 → 10907 ≤ length list₀
        → Ready found.first found.last bytes joined hold list
    ready low long = record {
      hold_long = r.hold_long;
      held_low = r.held_low;
      short = omega (arith, piece_length area at found lie, lie.high);
      fitting = piece_fits;
      room = omega (arith, r.room, r.area_long, list_length low long, piece_length area at found lie, lie.inside, lie.start);
      few = omega (arith, r.few, r.low);
    }

    module _ (next : Joined) (hold' list' : List ℕ) (low : before ≤ 8999) (long : 10907 ≤ length list₀)
        (out : StepOutcome (on_piece (take joined.held hold) found.first found.last bytes) joined hold list next hold' list') where
      abbrev step' : Step
      step' = on_piece (take joined.held hold) found.first found.last bytes

      below : length step'.held ≤ 8999
      below =
          step_held (take joined.held hold) (piece_of area found) (omega (arith, held_length, r.held_low))
          (omega (arith, piece_length area at found lie, lie.high)) piece_fits

      -- what is held next is what the record leaves
      held_next : take next.held hold' ≡ step'.held
      held_next =
          ap (λ (n : ℕ). take n hold') (out.held ∙ sym (zero-add (length step'.held))) ∙ ap (take (0 + length step'.held)) out.hold_bytes
          ∙ take_written hold 0 step'.held (omega (arith, below, r.hold_long))

      kept : hold ≡ hold₀
      kept = r.hold_kept (omega (arith, r.area_long, lie.inside, lie.start))

      hold_next : hold' ≡ written hold₀ 0 step'.held
      hold_next = out.hold_bytes ∙ ap (λ (d : List ℕ). written d 0 step'.held) kept

      size : next.listed + next.held ≤ before + (found.start + found.length)
      size =
          let s = step_size (take joined.held hold) found.first found.last bytes in
          omega (arith, s, out.listed, out.held, held_length, r.room, piece_length area at found lie, lie.start)

      last_set : found.start + found.length < 1908 → found.last ≡ true
      last_set h = go found.last lie.last
        where
          go : (b : Bool) → (b ≡ false → found.start + found.length ≡ length area) → b ≡ true
          go true f = refl
          go false f = absurd (omega (arith, f refl, r.area_long))

      list_next : list' ≡ written list₀ 0 (layout_packets (r.done ++ step'.out))
      list_next =
          let d = layout_packets r.done in
          let o = layout_packets step'.out in
          out.list_bytes
          ∙ ap (λ (l : List ℕ). written l joined.listed o) r.list_is
          ∙ ap (λ (n : ℕ). written (written list₀ 0 d) n o) (r.listed ∙ sym (zero-add (length d)))
          ∙ written_append list₀ 0 d o (omega (arith, size, out.listed, r.listed, r.area_long, lie.inside))
          ∙ ap (written list₀ 0) (sym (lists_append r.done step'.out))

      step_next : on_pieces (take before hold₀) r.all
          ≡ step_then (record { held = []; out = r.done ++ step'.out }) (on_pieces (take next.held hold') behind.pieces)
      step_next =
          let after = on_pieces step'.held behind.pieces in
          r.step
          ∙ ap (λ ps. step_then (record { held = []; out = r.done }) (on_pieces (take joined.held hold) ps)) behind.is
          ∙ ap (λ o. record { held = after.held; out = o }) (sym (append_assoc r.done step'.out after.out))
          ∙ ap (λ h. step_then (record { held = []; out = r.done ++ step'.out }) (on_pieces h behind.pieces)) (sym held_next)

      pub goes_on : Reached area before hold₀ list₀ hold' list' (found.start + found.length) next
      goes_on =
          let first = shape_behind r.rest behind.is r.shape in
          record {
            all = r.all;
            done = r.done ++ step'.out;
            rest = behind.pieces;
            area_long = r.area_long;
            low = omega (arith, lie.inside, r.area_long);
            whole = r.whole;
            to_read = behind.to_read;
            shape = first_shape behind.pieces first;
            fitting = first_fits_any (take next.held hold') behind.pieces first;
            step = step_next;
            held_low = omega (arith, out.held, below);
            hold_long = ap length out.hold_bytes ∙ written_length hold 0 step'.held (omega (arith, below, r.hold_long)) ∙ r.hold_long;
            hold_is = hold_next ∙ ap (written hold₀ 0) (sym held_next);
            hold_kept = λ h.
                hold_next ∙ ap (written hold₀ 0) (step_last (take joined.held hold) found.first found.last bytes (last_set h))
                ∙ written_nothing hold₀ 0;
            list_is = list_next;
            packets = omega (arith, out.packets, r.packets, length-append r.done step'.out);
            listed =
                let more = length-append (layout_packets r.done) (layout_packets step'.out) in
                omega (arith, out.listed, r.listed, ap length (lists_append r.done step'.out), more);
            room = size;
            few = omega (arith, out.packets, step_few (take joined.held hold) found.first found.last bytes, r.few, lie.start);
          }
        where
          shape_behind : (ps : List Piece) → ps ≡ piece_of area found ∷ behind.pieces → Shape ps → AllFirst behind.pieces
          shape_behind [] e h = absurd (let z : ◌≡◌ {A = ℕ} 0 1 = cc in omega arith)
          shape_behind (p ∷ ps) e h = let same : ps ≡ behind.pieces = cc in subst AllFirst same h.1
