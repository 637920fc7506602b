-- The eight bytes that are written are the sum of those that were there and the number's (`number_added`).
use mathlib.Core.Path.{ap, ◌∙◌}
use lib.Bits.{bit_xor}
use lib.ListN.{drop}
use Rattle.basics.specs.Numbers.{low_first}
use Rattle.basics.proofs.Lists.{bytes_each}
use Rattle.lent.specs.Written.{written}
use Rattle.crc.specs.Crc.{crc_32}
use Rattle.crc.proofs.Folding.{number_added}
use borrow.Author.Rules.{rules}
use Rattle.crc.proofs.add_number.Goals as goal

pub returns : goal.returns
returns c =
    let args = c.args in
    let bytes = args.bytes.now in
    ap (λ l. crc_32 (drop 8 l))
    (c.write_number.ensures ∙ ap (λ x. written bytes args.at (low_first 8 (bit_xor x args.number))) c.number_at.ensures)
    ∙ number_added bytes (bytes_each bytes (λ i. search rules)) args.at args.number (search rules) (search rules)
