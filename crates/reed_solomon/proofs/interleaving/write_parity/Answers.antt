-- The parity, written behind the 1,912 bytes of data, makes the coded payload (`coded_written`).
use native.Mathlib.Omega.{arith}
use mathlib.Core.Path.{sym, ap, ◌∙◌}
use lib.Seq.{length-take-le}
use Rattle.lent.specs.Written.{written}
use Rattle.reed_solomon.proofs.Rows.{coded_written}
use Rattle.reed_solomon.proofs.interleaving.write_parity.Goals as goal

pub slice_bounds-parity_bytes-end-2 : goal.slice_bounds-parity_bytes-end-2
slice_bounds-parity_bytes-end-2 c = sym (length-take-le 1912 c.args.payload.now (omega arith))

pub parity_bytes-parity-requires : goal.parity_bytes-parity-requires
parity_bytes-parity-requires c = length-take-le 1912 c.args.payload.now (omega arith)

pub returns : goal.returns
returns c =
    let payload = c.args.payload.now in
    let coded = c.parity_bytes-parity in
    c.write_at.ensures ∙ ap (written payload 1912) coded.ensures ∙ coded_written payload c.requires
