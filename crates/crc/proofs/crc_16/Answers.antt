-- The register of 32 bits holds the check sum times x^16 (`wide_crc`), and is divided by that.
use mathlib.Core.Path.{ap, ◌∙◌}
use Prim.Native.Nat.{◌/◌, ◌^◌}
use lib.Pow.{shl-shr}
use Rattle.crc.specs.Crc.{crc_16}
use Rattle.crc.proofs.Wide.{wide_crc}
use Rattle.crc.proofs.crc_16.Goals as goal

pub returns : goal.returns
returns c =
    let message = c.args.message.now in
    ap (λ x. x / 2 ^ 16) (c.check_sum.ensures ∙ wide_crc message) ∙ shl-shr (crc_16 message) 16
