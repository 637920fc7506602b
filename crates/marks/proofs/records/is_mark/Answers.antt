-- A whole packet's bits are "first" and "last", and none of the spare ones.
use Rattle.std.proofs.Common.{◌≡◌, ◌+◌, ◌/◌, ◌%◌, sym, arith, eq-eqb, le-leb}
use Rattle.std.proofs.Math.Bool.{or-true}
use Rattle.marks.specs.Mark.{may_begin, may_end, is_mark}
use Rattle.marks.proofs.records.is_mark.Goals as goal

pub returns-then-mark-eq-WHOLE_PACKET : goal.returns-then-mark-eq-WHOLE_PACKET
unfolding is_mark may_begin may_end
returns-then-mark-eq-WHOLE_PACKET c =
    let mark = c.args.mark in
    let spare : mark / 2048 % 8 ≡ 0 = omega arith in
    let first : mark / 32768 % 2 ≡ 1 = omega arith in
    let last : mark / 16384 % 2 ≡ 1 = omega arith in
    sym (simp (eq-eqb _ _ spare, eq-eqb _ _ first, eq-eqb _ _ last, or-true, le-leb 1 (mark % 2048) (omega arith), le-leb (2 + mark % 2048) c.args.room (omega arith)))
