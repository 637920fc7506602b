-- The answer of `apply` has the refusal's number; what comes of a call, by that number; and what every accepted frame leaves, whoever sent it.
use mathlib.Core.Path.{◌≡◌, refl, sym, ap, ◌∙◌}
use mathlib.Core.Bool.{Bool, true, false, cond}
use mathlib.Core.Option.{some}
use mathlib.Core.List.{List, []}
use Prim.Native.Nat.{ℕ, zero, suc, ◌≤◌}
use native.Mathlib.Omega.{arith}
use lib.ListN.{length, take, length-take}
use Rattle.refusals.specs.Table.{first_of}
use Rattle.lent.specs.Written.{written}
use Rattle.refusals.proofs.Table.{by-zero, by-above, both_passed, first_later}
use Rattle.lent.proofs.Written.{written_length}
use Rattle.link.specs.Link.{ArePackets, Piece, Step, held_after}
use Rattle.link.specs.Store.{layout_packets}
use Rattle.link.proofs.Hold.{held_bound, out_packets}
use Rattle.packing.specs.Records.{read}
use Rattle.joining.proofs.Laws.{AreaPieces, no_pieces, area_pieces, out_listed}
use Rattle.header.specs.Header.{header_fits}
use Rattle.header.specs.declared.FrameKind.{FrameKind}
use Rattle.header.specs.declared.Header.{Header}
use Rattle.receiver.specs.declared.Receiver.{Receiver}
use Rattle.receiver.specs.declared.Applied.{Applied}
use Rattle.std.specs.Prelude.{Result, Ok, Err}
use Rattle.refusals.specs.Numbers.{refusal_of, number_in}
use Rattle.refusals.specs.declared.Refusal.{Refusal}
use Rattle.refusals.proofs.Numbers.{answered, numbered}
use Rattle.receiver.specs.Applying.{receiver_then, is_data, pieces_of, missed_count, held_part, joined}
use Rattle.receiver.specs.Applying.{buffers_table, area_table, opened_table, apply_refusal, apply_table, ApplyOutcome}
use Rattle.receiver.proofs.Tables.{BuffersPassed, buffers_passed, buffers_pass, area_passed, opened_passed, opened_by_area}

-- the answer's number is the refusal's
pub apply_numbers : {header : Header} {area : List ℕ} {receiver : Receiver} {hold list : List ℕ} {r : Result Applied Refusal} {hold' list' : List ℕ}
    → ApplyOutcome header area receiver hold list r hold' list' → number_in r ≡ apply_refusal header area receiver hold list
unfolding apply_refusal refusal_of
apply_numbers {header} {area} {receiver} {hold} {list} x =
    ap (number_in {A = Applied}) x.answer ∙ numbered (apply_table header area receiver hold list) _ refl

-- ---- what comes of a call, by its number

module _ {header : Header} {area : List ℕ} {receiver : Receiver} {hold list : List ℕ} {r : Result Applied Refusal} {hold' list' : List ℕ}
    (x : ApplyOutcome header area receiver hold list r hold' list') where
  abbrev number : ℕ
  number = apply_refusal header area receiver hold list

  abbrev step : Step
  step = joined header area receiver hold

  module _ (z : number ≡ 0) where
    pub accepted_answer : r ≡ Ok (record {
      missed = missed_count header receiver;
      packets = length step.out;
      listed = length (layout_packets step.out);
      receiver = receiver_then header.txfn (length step.held);
    })
    accepted_answer = x.answer ∙ sym (answered number _ _ z refl)

    pub accepted_hold : hold' ≡ written hold 0 step.held
    accepted_hold = x.held ∙ by-zero number _ _ z

    pub accepted_list : list' ≡ written list 0 (layout_packets step.out)
    accepted_list = x.listed ∙ by-zero number _ _ z

  module _ (ne : number ≡ 0 → ⊥) where
    pub refused_answer : r ≡ Err (refusal_of number)
    refused_answer = x.answer ∙ by-above number _ _ ne

    pub refused_hold : hold' ≡ hold
    refused_hold = x.held ∙ by-above number _ hold ne

-- ---- a frame that is accepted: none of the rows applies

module _ (header : Header) (area : List ℕ) (receiver : Receiver) (hold list : List ℕ) where
  pub record ApplyPassed : Type 0 where
    pub buffers : BuffersPassed area receiver.held hold list
    pub fits : header_fits header ≡ true
    pub read : first_of (area_table (held_part header receiver hold) (pieces_of header.kind area)) ≡ 0

  pub apply_passed : apply_refusal header area receiver hold list ≡ 0 → ApplyPassed
  unfolding apply_refusal
  apply_passed z =
      let first = both_passed (buffers_table area receiver.held hold list) _ refl z in
      let second = opened_passed header area (held_part header receiver hold) first.1 in
      record { buffers = buffers_passed area receiver.held hold list first.0; fits = second.0; read = second.1 }

  -- where 2 and 3 do not apply the opened frame decides
  pub by_opened : BuffersPassed area receiver.held hold list
      → apply_refusal header area receiver hold list ≡ first_of (opened_table header area (held_part header receiver hold))
  unfolding apply_refusal
  by_opened p =
      first_later (buffers_table area receiver.held hold list) (opened_table header area (held_part header receiver hold)) refl
      (buffers_pass area receiver.held hold list p)

  pub apply_pass : ApplyPassed → apply_refusal header area receiver hold list ≡ 0
  apply_pass p = by_opened p.buffers ∙ opened_by_area header area (held_part header receiver hold) p.fits ∙ p.read

-- ---- what an accepted frame leaves

records_are : (kind : FrameKind) (area : List ℕ) (pieces : List Piece) → pieces_of kind area ≡ some pieces → AreaPieces pieces
records_are kind area pieces = go (is_data kind)
  where
    go : (test : Bool) → cond test (read area) (some []) ≡ some pieces → AreaPieces pieces
    go true e = area_pieces area pieces e
    go false e = let none-are : [] ≡ pieces = cc in rw (← none-are) no_pieces

-- a held part that is dropped or kept is no longer than it was
part_few : (missed : ℕ) (part : List ℕ) → length part ≤ 8999 → length (held_after missed part) ≤ 8999
part_few zero part h = h
part_few (suc missed) part h = omega arith

-- Of an area that neither 14 nor 15 applies to, with at most 8,999 bytes held: what it completes are packets, its list has at most 10,907 bytes, and at most
-- 8,999 bytes are then held.
pub record JoinedWell (step : Step) : Type 0 where
  pub packets : ArePackets step.out
  pub listed : length (layout_packets step.out) ≤ 10907
  pub held : length step.held ≤ 8999

joined_well : (header : Header) (area : List ℕ) (receiver : Receiver) (hold : List ℕ) → receiver.held ≤ 8999
    → first_of (area_table (held_part header receiver hold) (pieces_of header.kind area)) ≡ 0 → JoinedWell (joined header area receiver hold)
unfolding joined
joined_well header area receiver hold h z =
    let part = held_part header receiver hold in
    let a = area_passed part (pieces_of header.kind area) z in
    let are = records_are header.kind area a.pieces a.are in
    let few : length part ≤ 8999 = part_few (missed_count header receiver) (take receiver.held hold) (simp length-take (omega (arith, h))) in
    rw a.are (record {
      packets = out_packets part a.pieces are.filled are.shape a.fitting;
      listed = out_listed part a.pieces are few;
      held = held_bound part a.pieces few are.shape a.fitting;
    })

-- Whatever frame was accepted: what it completed are packets, its list is short enough, at most 8,999 bytes are held afterwards, and the hold is as long as
-- before. So 3 is never given to a state of the receiver's own.
pub record ApplyLeaves (header : Header) (area : List ℕ) (receiver : Receiver) (hold : List ℕ) (after : Receiver) (hold' : List ℕ) : Type 0 where
  pub well : JoinedWell (joined header area receiver hold)
  pub most : after.held ≤ 8999
  pub long : length hold' ≡ 9000

pub apply_own : (header : Header) (area : List ℕ) (receiver : Receiver) (hold list : List ℕ)
    (applied : Applied) (hold' list' : List ℕ)
    → ApplyOutcome header area receiver hold list (Ok applied) hold' list'
    → ApplyLeaves header area receiver hold applied.receiver hold'
apply_own header area receiver hold list applied hold' list' x =
    let z : apply_refusal header area receiver hold list ≡ 0 = sym (apply_numbers x) in
    let p = apply_passed header area receiver hold list z in
    let well = joined_well header area receiver hold p.buffers.most p.read in
    let part = (joined header area receiver hold).held in
    let same : applied.receiver ≡ receiver_then header.txfn (length part) = cc (accepted_answer x z) in
    record {
      well = well;
      most = rw same well.held;
      long = ap length (accepted_hold x z) ∙ written_length hold 0 part (omega (arith, well.held, p.buffers.long)) ∙ p.buffers.long;
    }
