-- 14 bytes of fields and the two of their CRC-16 fill the 16 (`fields_length`, `written_parts`).
use Rattle.std.proofs.Common.{◌≡◌, ap, ◌∙◌, ◌++◌, ◌+◌, length}
use Rattle.basics.specs.Lists.{zeros}
use Rattle.lent.specs.Written.{written}
use Rattle.lent.proofs.Written.{written_parts}
use Rattle.header.proofs.Bytes.{fields_length}
use Rattle.header.specs.Header.{all_ones, header_bytes, header_bytes_with}
use Rattle.header.proofs.coding.header_bytes.Goals as goal

pub returns : goal.returns
unfolding header_bytes_with
returns c =
    let check = c.to_be_bytes-check.result in
    let fields = c.field_bytes-fields.result in
    let joined : fields ++ check ≡ header_bytes c.args.header =
    simp (c.to_be_bytes-check.ensures, c.crc_16.ensures, c.field_bytes-fields.ensures) in
    c.write_at-2.ensures ∙ ap (λ l. written l 14 check) c.write_at.ensures
    ∙ written_parts (zeros 16) fields check 14 (ap length c.field_bytes-fields.ensures ∙ fields_length all_ones c.args.header)
    (ap (λ l. 14 + length l) c.to_be_bytes-check.ensures) ∙ joined
