use Rattle.std.proofs.Common.{◌≡◌, ◌-◌, ◌+◌, ◌*◌}
use Rattle.demo_scenario.specs.Beam.{turned_from}
use Rattle.demo_scenario.proofs.beam.damage.Given as goal

-- What is still to be turned makes of the bytes at hand what the definition makes of those at entry: each turn of the loop is one step of it.
abbrev pub invariant-loop-wrong : goal.invariant-loop-wrong
invariant-loop-wrong l =
    turned_from (l.hit.first + l.hit.apart * l.wrong) l.hit.apart (l.wrong-end - l.wrong) l.bytes
    ≡ turned_from l.hit.first l.hit.apart l.wrong-end l.initial.bytes
