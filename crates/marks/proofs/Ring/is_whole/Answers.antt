-- The front mark, begun or not, then the marks behind it: the laws are those of Walk.antt.
use Rattle.std.proofs.Common.{sym, ◌∙◌, arith}
use Rattle.link.proofs.Store.{whole_from}
use Rattle.marks.proofs.Walk.{whole_short, not_begun, begun_bad, begun_good}
use Rattle.marks.proofs.Ring.is_whole.Goals as goal

pub returns-then-used-lt2 : goal.returns-then-used-lt2
returns-then-used-lt2 c = rw c.len-used.ensures.all (whole_short c.args.self.now (omega arith))

pub returns-then-mark-lt-BEGUN_BIT : goal.returns-then-mark-lt-BEGUN_BIT
unfolding whole_from
returns-then-mark-lt-BEGUN_BIT c =
    c.are_packets.ensures ∙ sym (not_begun c.args.self.now c.mark-mark.result c.mark-mark.ensures c.if-mark-lt-BEGUN_BIT.true)

pub returns-then-is_length : goal.returns-then-is_length
unfolding whole_from
returns-then-is_length c =
    let test = rw c.len-used.ensures.all at (sym c.is_length.ensures ∙ c.if-is_length.true) in
    c.are_packets-then-is_length.ensures ∙ sym (begun_good c.args.self.now c.mark-mark.result c.mark-mark.ensures c.if-mark-lt-BEGUN_BIT.false test)

pub returns-else-is_length : goal.returns-else-is_length
returns-else-is_length c =
    let test = rw c.len-used.ensures.all at (sym c.is_length.ensures ∙ c.if-is_length.false) in
    c.if-is_length.false ∙ sym (begun_bad c.args.self.now c.mark-mark.result c.mark-mark.ensures c.if-mark-lt-BEGUN_BIT.false test)
