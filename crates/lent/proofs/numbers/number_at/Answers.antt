-- Eight bytes, each worth 256 times the one before, are the number that stands there (`number_at_lem`).
use Rattle.std.proofs.Common.{◌≡◌, ◌∙◌, ◌+◌, ◌*◌, get_or, arith}
use Rattle.lent.proofs.Bytes.{number_at_lem}
use Rattle.lent.proofs.numbers.number_at.Goals as goal

pub returns : goal.returns
returns c =
    let at = c.args.at in
    let b = c.args.bytes.now in
    let nested : c.from_le_bytes.result
    ≡ get_or b at 0 + 256 * (get_or b (at + 1) 0 + 256 * (get_or b (at + 2) 0 + 256 * (get_or b (at + 3) 0 + 256 * (get_or b (at + 4) 0
    + 256 * (get_or b (at + 5) 0 + 256 * (get_or b (at + 6) 0 + 256 * (get_or b (at + 7) 0 + 256 * 0))))))) = omega (arith, c.from_le_bytes.ensures) in
    nested ∙ number_at_lem b at
