-- Word by word: the parities of the words before k are written (`parities_more`), and with all eight the payload is the coded one (`all_parities`).
use native.Mathlib.Omega.{arith}
use mathlib.Core.Path.{sym, ap, ◌∙◌}
use lib.ListN.{length}
use Rattle.plain_reed_solomon.specs.Word.{with_parity}
use Rattle.plain_reed_solomon.proofs.Writes.{with_parities, parities_none, parities_more, parities_length, all_parities}
use Rattle.plain_reed_solomon.proofs.write_parity.Goals as goal

pub loop-k-init : goal.loop-k-init
loop-k-init c = sym (parities_none c.args.payload.now)

pub write_word-requires : goal.write_word-requires
write_word-requires c =
    let loop = c.loop-k in
    (c.loop-k-test.true, ap length loop.invariant ∙ parities_length loop.k c.args.payload.now ∙ c.requires)

pub loop-k-preserved : goal.loop-k-preserved
loop-k-preserved c =
    let loop = c.loop-k in
    let payload = c.args.payload.now in
    c.write_word.ensures ∙ ap (with_parity loop.k) loop.invariant ∙ parities_more loop.k payload

pub shape_of-payload : goal.shape_of-payload
shape_of-payload c =
    let loop = c.loop-k in
    omega (arith, ap length loop.invariant, parities_length loop.k c.args.payload.now)

pub returns : goal.returns
returns c =
    let loop = c.loop-k in
    let payload = c.args.payload.now in
    loop.invariant ∙ ap (λ n. with_parities n payload) (omega arith) ∙ all_parities payload c.requires
