-- Place by place: the sums that are left without the places that are left stay the sums without all (`without_all_turn`), and so the divisor
-- (`factor_turn`).
use Rattle.std.proofs.Common.{◌≡◌, ◌-◌, ◌<◌, length, take, drop}
use Rattle.field.specs.Field.{times}
use Rattle.field.specs.Raised.{raised}
use Rattle.nearest.specs.Search.{factor, without_all}
use Rattle.nearest.proofs.errors.error_at.Given as goal

abbrev pub invariant-loop-other : goal.invariant-loop-other
invariant-loop-other l =
    (length l.left ≡ 16) × (l.divisor < 256)
    × (without_all (drop l.other-index l.others) (take (16 - l.other-index) l.left) ≡ without_all l.others l.initial.left)
    × (times (factor l.number (drop l.other-index l.others)) l.divisor ≡ times (factor l.number l.others) (raised l.number 120))
