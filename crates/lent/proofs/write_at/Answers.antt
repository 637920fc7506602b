-- A copy into the borrowed part leaves the whole buffer as the definition writes it (`copied_part`).
use Rattle.std.proofs.Common.{◌+◌, ◌-◌, length, ap, ◌∙◌}
use borrow.Rule.Slice.PartMut.{put_mid}
use Rattle.lent.proofs.Written.{copied_part}
use Rattle.lent.proofs.write_at.Goals as goal

pub returns : goal.returns
returns c =
    let at = c.args.at in
    let buffer = c.args.buffer.now in
    let source = c.args.source.now in
    ap (put_mid at (at + length source - at) buffer) c.copy_from_slice.ensures.after ∙ copied_part buffer at source
