-- What follows the preamble is written behind it (`copied_part`, `written_append`).
use Rattle.std.proofs.Common.{◌≡◌, arith, ap, ◌∙◌, ◌+◌, ◌-◌, ◌++◌, length}
use borrow.Rule.Slice.PartMut.{put_mid}
use Rattle.lent.specs.Written.{written}
use Rattle.lent.proofs.Written.{copied_part, written_append}
use Rattle.frame.specs.Frame.{preamble, frame_bytes_with}
use Rattle.frame.proofs.build.Goals as goal

pub returns : goal.returns
unfolding frame_bytes_with
returns c =
    let out = c.args.out.now in
    let part = c.fill_part.new.part in
    let front = c.write_at.ensures ∙ ap (written out 0) c.preamble.ensures in
    let long : 2072 ≡ 9 + length part - 9 = omega arith in
    ap (λ n. put_mid 9 n c.write_at.new.buffer part) long ∙ copied_part c.write_at.new.buffer 9 part
    ∙ ap (λ l. written l 9 part) front ∙ written_append out 0 preamble part (omega arith) ∙ ap (λ l. written out 0 (preamble ++ l)) c.fill_part.ensures
