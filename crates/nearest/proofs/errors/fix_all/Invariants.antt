-- Place by place: the repair of the places that are left stays the repair of all (`fix_turn`), and the sums are those of the word as far as it is
-- repaired (`sums_set`).
use Rattle.std.proofs.Common.{◌≡◌, [], length, take, drop}
use Rattle.nearest.specs.Search.{fix_all, sums_of}
use Rattle.nearest.proofs.errors.fix_all.Given as goal

abbrev pub invariant-loop-i : goal.invariant-loop-i
invariant-loop-i l =
    let places = take l.wrong.count l.wrong.at in
    (length l.fixed.word ≡ 255) × (fix_all l.fn.sums (take l.i places) (drop l.i places) l.fixed.word ≡ fix_all l.fn.sums [] places l.fn.own) × (l.fixed.sums ≡ sums_of l.fixed.word)
