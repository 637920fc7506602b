-- The area is the whole of what was lent, of 1,908 bytes.
use Rattle.std.proofs.Common.{◌≡◌, rules, length, eq-eqb, le-leb}
use Rattle.std.proofs.lemmas.Bool.{lt-leb}
use Rattle.parts.proofs.part_build.Goals as goal

pub returns-then-out-lt-FRAME_SIZE : goal.returns-then-out-lt-FRAME_SIZE
returns-then-out-lt-FRAME_SIZE c =
    let long : length c.args.area.now ≡ 1908 = search rules in
    simp (eq-eqb _ _ long, lt-leb _ _ c.if-out-lt-FRAME_SIZE.true)

pub returns : goal.returns
returns c =
    let long : length c.args.area.now ≡ 1908 = search rules in
    let whole : c.in-Some.area.now ≡ c.args.area.now = search rules in
    simp (eq-eqb _ _ long, le-leb _ _ c.if-out-lt-FRAME_SIZE.false, c.build.ensures, whole, c.plain_header.ensures)
