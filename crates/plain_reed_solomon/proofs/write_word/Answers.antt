-- Byte by byte: the parity bytes left, spread over what is written so far, give what spreading all gives (`spread_turn`); in the end none is left.
use native.Mathlib.Omega.{arith}
use mathlib.Core.Path.{◌≡◌, refl, sym, ap, ap₂, ◌∙◌}
use Prim.Native.Nat.{◌+◌}
use native.Mathlib.Nat.{add-zero}
use lib.ListN.{length, take, length-set}
use lib.Seq.{length-take-le}
use Rattle.reed_solomon.specs.Code.{parity}
use Rattle.reed_solomon.specs.Payload.{every_eighth}
use Rattle.reed_solomon.specs.Rows.{spread}
use Rattle.plain_reed_solomon.specs.Word.{with_parity}
use Rattle.reed_solomon.proofs.Laws.{parity_length}
use Rattle.reed_solomon.proofs.Interleaved.{eighth_length, take_eighth}
use Rattle.reed_solomon.proofs.Spread.{spread_turn, spread_end}
use borrow.Author.Rules.{rules}
use Rattle.plain_reed_solomon.proofs.write_word.Goals as goal

pub slice_bounds-parity_of-end : goal.slice_bounds-parity_of-end
slice_bounds-parity_of-end c =
    let gathered = c.gathered-word in
    let args = c.args in
    sym (length-take-le 239 gathered.result (omega (arith, ap length gathered.ensures, eighth_length 255 args.k args.payload.now)))

pub loop-j-init : goal.loop-j-init
unfolding with_parity
loop-j-init c =
    let args = c.args in
    let payload = args.payload.now in
    let e : c.parity_of-parity.result ≡ parity (every_eighth 239 args.k payload) =
    c.parity_of-parity.ensures ∙ ap (λ t. parity (take 239 t)) c.gathered-word.ensures
    ∙ ap parity (take_eighth 239 255 args.k payload (omega arith)) in
    (ap length e ∙ parity_length _, refl, ap₂ (λ p n. spread p n payload) e (add-zero (1912 + args.k)))

pub loop-j-preserved : goal.loop-j-preserved
loop-j-preserved c =
    let loop = c.loop-j in
    let parity = c.parity_of-parity.result in
    let k = c.args.k in (
      search rules,
      simp length-set loop.invariant.1,
      spread_turn parity loop.payload (1912 + k) loop.j (omega arith) ∙ loop.invariant.2,
    )

pub returns : goal.returns
returns c =
    let loop = c.loop-j in
    sym (spread_end c.parity_of-parity.result loop.payload _ loop.j (omega arith)) ∙ loop.invariant.2
