-- Each return gives the first row that applies; that TXFN fits in 16 bits is not tested, for its type has no more.
use Rattle.std.proofs.Common.{sym, ◌∙◌, ◌<◌, arith, lt-ltb, eq-eqb, ne_eqb}
use Rattle.header.specs.Calls.{code_refusal}
use Rattle.refusals.specs.Numbers.{refusal_of}
use Rattle.refusals.specs.Table.{first_of, by}
use Rattle.header.proofs.judge.Goals as goal

pub returns-then-out-ne16 : goal.returns-then-out-ne16
unfolding code_refusal first_of by refusal_of
returns-then-out-ne16 c = simp (ne_eqb _ _ c.if-out-ne16.true)

pub returns-then-not-fields_fit : goal.returns-then-not-fields_fit
unfolding code_refusal first_of by refusal_of
returns-then-not-fields_fit c =
    let txfn_fits : c.args.header.txfn.0 < 65536 = omega arith in
    simp (eq-eqb _ _ c.if-out-ne16.false, lt-ltb _ _ txfn_fits, sym c.fields_fit.ensures ∙ c.if-not-fields_fit.true)

pub returns : goal.returns
unfolding code_refusal first_of by
returns c =
    let txfn_fits : c.args.header.txfn.0 < 65536 = omega arith in
    simp (eq-eqb _ _ c.if-out-ne16.false, lt-ltb _ _ txfn_fits, sym c.fields_fit.ensures ∙ c.if-not-fields_fit.false)
