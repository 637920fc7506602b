-- What a frame that is applied may lean on, and how joining meets the contract of `apply`.
use mathlib.Core.Path.{◌≡◌, refl, sym, ap, ◌∙◌}
use mathlib.Core.Bool.{true, false, cond}
use mathlib.Core.Option.{Option, some}
use mathlib.Core.List.{List, []}
use Prim.Native.Nat.{ℕ, zero, suc, ◌≤◌}
use native.Mathlib.Nat.{zero-add}
use native.Mathlib.Omega.{arith}
use lib.Dec.{eqb}
use lib.ListN.{length, take}
use lib.Seq.{length-take-le}
use borrow.Author.Tests.{ne_eqb}
use Rattle.std.specs.Prelude.{Some, Result, Ok, Err}
use Rattle.basics.specs.Counts.{next_txfn}
use Rattle.counts.specs.declared.Txfn.{Txfn}
use Rattle.refusals.specs.Numbers.{judged_by}
use Rattle.refusals.specs.Table.{first_of}
use Rattle.refusals.specs.declared.Refusal.{Refusal}
use Rattle.refusals.proofs.Numbers.{passed, answered, stands}
use Rattle.refusals.proofs.Table.{first_earlier, first_later}
use Rattle.lent.proofs.Written.{written_own, written_nothing}
use Rattle.link.specs.Link.{Piece, Step, held_after, on_pieces}
use Rattle.link.specs.Store.{layout_packets}
use Rattle.packing.specs.Records.{read}
use Rattle.joining.specs.declared.growing.Joined.{Joined}
use Rattle.joining.specs.Growing.{StepOutcome}
use Rattle.joining.specs.Joining.{unjoined, JoinOutcome}
use Rattle.header.specs.declared.Header.{Header}
use Rattle.receiver.specs.declared.Receiver.{Receiver}
use Rattle.receiver.specs.declared.Applied.{Applied}
use Rattle.receiver.specs.Applying.{receiver_then, is_data, pieces_of, or_none, missed_count, held_part, joined}
use Rattle.receiver.specs.Applying.{buffers_table, opened_table, apply_refusal, ApplyOutcome}
use Rattle.receiver.proofs.Tables.{BuffersPassed, buffers_passed, AreaPassed, area_passed, data_records, other_records, opened_passed}

-- ---- the two judges that `apply` goes by

-- a refusal with 2 or 3
pub buffers_first : (header : Header) (area : List ℕ) (receiver : Receiver) (hold list : List ℕ) {refusal : Refusal}
    → Err refusal ≡ judged_by (first_of (buffers_table area receiver.held hold list)) → Err refusal ≡ judged_by (apply_refusal header area receiver hold list)
unfolding apply_refusal
buffers_first header area receiver hold list {refusal} e =
    let refused : first_of (buffers_table area receiver.held hold list) ≡ 0 → ⊥ =
    λ z. let both : ◌≡◌ {A = Result (Unit {0}) Refusal} (Err refusal) (Ok tt) = e ∙ sym (answered _ tt tt z refl) in cc in
    e ∙ ap judged_by (sym (first_earlier (buffers_table area receiver.held hold list) _ refused))

-- how much is still held, as the code counts it
still_few : (held missed before : ℕ) → held ≡ cond (eqb missed 0) before 0 → held ≤ before
still_few held zero before e = omega arith
still_few held (suc missed) before e = let none : held ≡ 0 = e ∙ rw (ne_eqb (suc missed) 0 (λ z. omega arith)) in omega arith

still_held : (held missed before : ℕ) (hold : List ℕ) → held ≡ cond (eqb missed 0) before 0 → take held hold ≡ held_after missed (take before hold)
still_held held zero before hold e = ap (λ (k : ℕ). take k hold) e
still_held held (suc missed) before hold e =
    let none : held ≡ 0 = e ∙ rw (ne_eqb (suc missed) 0 (λ z. omega arith)) in
    ap (λ (k : ℕ). take k hold) none

-- What is known where 2 and 3 do not apply: how many frames were missed, how much is still held, and that the opened frame decides.
pub record Judged (header : Header) (area : List ℕ) (receiver : Receiver) (hold list : List ℕ) (missed held : ℕ) : Type 0 where
  pub fit : BuffersPassed area receiver.held hold list
  pub counted : missed ≡ missed_count header receiver
  pub few : held ≤ receiver.held
  pub part : take held hold ≡ held_part header receiver hold
  pub refusal : first_of (opened_table header area (take held hold)) ≡ apply_refusal header area receiver hold list

pub judged : (header : Header) (area : List ℕ) (receiver : Receiver) (hold list : List ℕ) {missed held : ℕ} {given : Unit {0}}
    → Ok given ≡ judged_by (first_of (buffers_table area receiver.held hold list)) → missed ≡ missed_count header receiver
    → held ≡ cond (eqb missed 0) receiver.held 0 → Judged header area receiver hold list missed held
unfolding apply_refusal
judged header area receiver hold list {missed} {held} pass counted still =
    let buffers = buffers_table area receiver.held hold list in
    let none = passed _ _ _ pass in
    let part : take held hold ≡ held_part header receiver hold =
    still_held held missed receiver.held hold still ∙ ap (λ (n : ℕ). held_after n (take receiver.held hold)) counted in
    record {
      fit = buffers_passed area receiver.held hold list none;
      counted = counted;
      few = still_few held missed receiver.held still;
      part = part;
      refusal = ap (λ (h : List ℕ). first_of (opened_table header area h)) part ∙ sym (first_later buffers _ refl none);
    }

-- ---- from what joining did to the contract

-- what is answered where so much was joined
abbrev pub applied_as : ℕ → Txfn → Joined → Applied
applied_as missed next done =
    record { missed = missed; packets = done.packets; listed = done.listed; receiver = record { expected = Some next; held = done.held } }

module _ {header : Header} {area : List ℕ} {receiver : Receiver} {hold list : List ℕ} {missed held : ℕ}
    (k : Judged header area receiver hold list missed held) (z : first_of (opened_table header area (take held hold)) ≡ 0)
    {next : Txfn} (counts : next.0 ≡ next_txfn header.txfn.0) where
  area_is : AreaPassed (take held hold) (pieces_of header.kind area)
  area_is = area_passed (take held hold) (pieces_of header.kind area) (opened_passed header area (take held hold) z).1

  -- the pieces that stand in the area do what the contract says
  joined_so : (pieces : List Piece) → pieces_of header.kind area ≡ some pieces → on_pieces (take held hold) pieces ≡ joined header area receiver hold
  unfolding joined
  joined_so pieces e =
      ap (λ (part : List ℕ). on_pieces part pieces) k.part
      ∙ ap (λ (o : Option (List Piece)). on_pieces (held_part header receiver hold) (or_none o)) (sym e)

  -- the pieces did this, and so much was written
  as_joined : {done : Joined} {hold' list' : List ℕ} (step : Step) → step ≡ joined header area receiver hold
      → StepOutcome step (unjoined held) hold list done hold' list' → ApplyOutcome header area receiver hold list (Ok (applied_as missed next done)) hold' list'
  as_joined {done} step is before =
      let o = rw is at before in
      let none = sym k.refusal ∙ z in
      let whole = joined header area receiver hold in
      let packets : done.packets ≡ length whole.out = o.packets ∙ zero-add _ in
      let listed : done.listed ≡ length (layout_packets whole.out) = o.listed ∙ zero-add _ in
      let same : applied_as missed next done ≡ record {
        missed = missed_count header receiver;
        packets = length whole.out;
        listed = length (layout_packets whole.out);
        receiver = receiver_then header.txfn (length whole.held);
      } =
      λ i. record {
        missed = k.counted i;
        packets = packets i;
        listed = listed i;
        receiver = record { expected = Some (record { 0 = counts i }); held = o.held i };
      } in
      record {
        answer = answered _ _ _ none same;
        held = stands _ _ _ _ none o.hold_bytes;
        listed = stands _ _ _ _ none o.list_bytes;
      }

  data_read : is_data header.kind ≡ true → read area ≡ some area_is.pieces
  data_read d = sym (data_records header.kind area d) ∙ area_is.are

  pub data_done : {done : Joined} {hold' list' : List ℕ} → is_data header.kind ≡ true
      → JoinOutcome area held hold list done hold' list' → ApplyOutcome header area receiver hold list (Ok (applied_as missed next done)) hold' list'
  data_done d outcome =
      let pieces = area_is.pieces in
      as_joined (on_pieces (take held hold) pieces) (joined_so pieces area_is.are) (outcome pieces (data_read d))

  -- no piece was joined
  none_done : StepOutcome (on_pieces (take held hold) []) (unjoined held) hold list (unjoined held) hold list
  none_done =
      let inside : held ≤ length hold = omega (arith, k.few, k.fit.most, k.fit.long) in
      record {
        held = sym (length-take-le held hold inside);
        packets = refl;
        listed = refl;
        hold_bytes = sym (written_own hold held inside);
        list_bytes = sym (written_nothing list 0);
      }

  pub other_done : is_data header.kind ≡ false → ApplyOutcome header area receiver hold list (Ok (applied_as missed next (unjoined held))) hold list
  other_done d = as_joined (on_pieces (take held hold) []) (joined_so [] (other_records header.kind area d)) none_done
