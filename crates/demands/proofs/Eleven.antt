-- 11 of `apply` (02, M-106): where 2 and 3 do not apply it is given to exactly the headers that coding refuses with 6, and it cannot come behind `open`.
use mathlib.Core.Path.{◌≡◌, refl, sym, ap, subst, ◌∙◌}
use mathlib.Core.Logic.{◌↔◌}
use mathlib.Core.Bool.{Bool, true, false, not, and-false, false≢true}
use mathlib.Core.List.{List, ◌++◌}
use Prim.Native.Nat.{ℕ}
use native.Mathlib.Omega.{arith}
use lib.ListN.{length}
use borrow.Author.Tests.{eq-eqb}
use Rattle.std.specs.Prelude.{Result, Ok, Err}
use Rattle.refusals.specs.Numbers.{number_of}
use Rattle.refusals.specs.Table.{Row, ◌unless◌, first_of}
use Rattle.refusals.specs.declared.Refusal.{Refusal}
use Rattle.refusals.specs.declared.Refusal.TheVariants.{FieldRule}
use Rattle.refusals.proofs.Numbers.{number_above}
use Rattle.refusals.proofs.Table.{numbers_of}
use Rattle.header.specs.Header.{fields_fit, header_fits}
use Rattle.header.specs.Calls.{code_refusal}
use Rattle.header.specs.declared.Header.{Header}
use Rattle.opening.specs.Opening.{OpenOutcome}
use Rattle.opening.specs.declared.Opened.{Opened}
use Rattle.receiver.specs.Applying.{pieces_of, held_part, buffers_table, area_table, apply_refusal, ApplyOutcome}
use Rattle.receiver.specs.declared.Receiver.{Receiver}
use Rattle.receiver.specs.declared.Applied.{Applied}
use Rattle.receiver.proofs.Tables.{BuffersPassed}
use Rattle.receiver.proofs.Laws.{apply_numbers, by_opened}
use Rattle.flat.specs.Answers.{flat_open, flat_apply}
use Rattle.flat.specs.Headers.{header_of}
use Rattle.flat.specs.States.{receiver_of}
use Rattle.flat.specs.declared.FlatOpen.{FlatOpen}
use Rattle.flat.specs.declared.FlatApply.{FlatApply}
use Rattle.flat.specs.declared.states.FlatReceiver.{FlatReceiver}
use Rattle.flat.proofs.Back.{header_through_c}
use Rattle.taqwelim.specs.Calls.{OpenCall, ApplyCall}
use Rattle.demands.proofs.Outcomes.{among, first_among, left_out}
use Rattle.demands.proofs.Demand2.{demand2_holds}

module _ (header : Header) (area : List ℕ) (receiver : Receiver) (hold list : List ℕ) where
  -- the rows but 11
  abbrev others : List Row
  others = buffers_table area receiver.held hold list ++ area_table (held_part header receiver hold) (pieces_of header.kind area)

  -- a header that fits: the number is one of the others
  fitting_never : header_fits header ≡ true → apply_refusal header area receiver hold list ≡ 11 → ⊥
  unfolding apply_refusal
  fitting_never fit e =
      let same = left_out (buffers_table area receiver.held hold list) (area_table (held_part header receiver hold) (pieces_of header.kind area))
      (11 unless header_fits header) (ap not fit) in
      let is : first_of others ≡ 11 = sym same ∙ e in
      let given = first_among others (λ z. omega arith) in
      false≢true (subst (λ (n : ℕ). among n (numbers_of others) ≡ true) is given)

  module _ (buffers : BuffersPassed area receiver.held hold list) where
    misfit_given : header_fits header ≡ false → apply_refusal header area receiver hold list ≡ 11
    unfolding first_of
    misfit_given e = by_opened header area receiver hold list buffers ∙ rw e

    pub eleven_where_six : (out : List ℕ) → length out ≡ 16 → (apply_refusal header area receiver hold list ≡ 11) ↔ (code_refusal header out ≡ 6)
    unfolding code_refusal first_of
    eleven_where_six out long = go (header_fits header) refl
      where
        go : (test : Bool) → header_fits header ≡ test → (apply_refusal header area receiver hold list ≡ 11) ↔ (code_refusal header out ≡ 6)
        go true fit = (λ e. absurd (fitting_never fit e), λ e. let z : ◌≡◌ {A = ℕ} 0 6 = rw (eq-eqb (length out) 16 long, fit) at e in absurd (omega arith))
        go false misfit = (λ e. rw (eq-eqb (length out) 16 long, misfit), λ e. misfit_given misfit)

    -- so RXFN 1 with ACK-valid 0 is refused with 11, whatever the type, the other fields and the area
    pub unasked_rxfn : header.fields.valid ≡ false → header.fields.rxfn.0 ≡ 1 → apply_refusal header area receiver hold list ≡ 11
    unfolding fields_fit
    unasked_rxfn valid rxfn = misfit_given (simp (valid, rxfn, and-false))

  -- whatever `open` answered is never refused with 11, whatever it is applied to
  pub never_11 : (taps : ℕ) (frame buffer : List ℕ) (repaired : ℕ) (after : List ℕ)
      → OpenOutcome taps frame buffer (Ok (record { header = header; repaired = repaired })) after
      → (hold' list' : List ℕ) → ApplyOutcome header area receiver hold list (Err FieldRule) hold' list' → ⊥
  never_11 taps frame buffer repaired after opened hold' list' applied =
      fitting_never (demand2_holds.frame_again taps frame buffer (record { header = header; repaired = repaired }) after opened).1.1 (sym (apply_numbers applied))

-- and in C, where the header goes out as numbers and comes back
pub c_never_11 : (taps : ℕ) (frame buffer after : List ℕ) (opened : FlatOpen) → OpenCall taps frame buffer opened after → opened.refusal ≡ 0
    → (area : List ℕ) (receiver : FlatReceiver) (hold list : List ℕ) (applied : FlatApply) (hold' list' : List ℕ)
    → ApplyCall opened.header area receiver hold list applied hold' list' → applied.refusal ≡ 11 → ⊥
c_never_11 taps frame buffer after opened o none area receiver hold list applied hold' list' a eleven =
    go o.answer o.outcome o.flat a.answer a.outcome a.flat
  where
    go : (answer : Result Opened Refusal) → OpenOutcome taps frame buffer answer after → opened ≡ flat_open answer
        → (next : Result Applied Refusal) → ApplyOutcome (header_of opened.header) area (receiver_of receiver) hold list next hold' list'
        → applied ≡ flat_apply receiver next → ⊥
    go (Err refusal) outcome e next applies f =
        number_above refusal (sym (ap (λ (r : FlatOpen). r.refusal) e) ∙ none)
    go (Ok given) outcome e (Ok done) applies f =
        let z : ◌≡◌ {A = ℕ} 0 11 = sym (ap (λ (r : FlatApply). r.refusal) f) ∙ eleven in omega arith
    go (Ok given) outcome e (Err refusal) applies f =
        let fit = (demand2_holds.frame_again taps frame buffer given after outcome).1.1 in
        let same : header_of opened.header ≡ given.header = ap (λ (r : FlatOpen). header_of r.header) e ∙ header_through_c given.header fit in
        let is : number_of refusal ≡ 11 = sym (ap (λ (r : FlatApply). r.refusal) f) ∙ eleven in
        fitting_never given.header area (receiver_of receiver) hold list fit (sym (apply_numbers (rw same at applies)) ∙ is)
