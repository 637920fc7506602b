-- The coded header and the payload fill the part (`copied_part`, `written_parts`), and are scrambled as one.
use Rattle.std.proofs.Common.{◌≡◌, arith, ap, ◌∙◌, ◌+◌, ◌-◌, ◌++◌, length}
use borrow.Rule.Slice.PartMut.{put_mid}
use Rattle.lent.specs.Written.{written}
use Rattle.lent.proofs.Written.{copied_part, written_parts}
use Rattle.scrambler.specs.Scrambler.{scrambled}
use Rattle.header.specs.Header.{all_ones}
use Rattle.frame.specs.Frame.{coded_header_with}
use Rattle.frame.proofs.Laws.{coded_header_length}
use Rattle.frame.proofs.coding.fill_part.Goals as goal

pub returns : goal.returns
returns c =
    let part = c.args.part.now in
    let head = coded_header_with all_ones c.args.header in
    let payload = c.fill_payload.new.payload in
    let front = c.write_at.ensures ∙ ap (written part 0) c.coded_header.ensures in
    let rest : length c.write_at.new.buffer - 32 ≡ 32 + length payload - 32 = omega arith in
    let filled = ap (λ n. put_mid 32 n c.write_at.new.buffer payload) rest ∙ copied_part c.write_at.new.buffer 32 payload
    ∙ ap (λ l. written l 32 payload) front ∙ written_parts part head payload 32 (coded_header_length all_ones c.args.header) (omega arith)
    ∙ ap (λ l. head ++ l) c.fill_payload.ensures in
    c.scramble.ensures ∙ ap (scrambled c.args.taps) filled
