-- Coefficient by coefficient, from the highest: the values are those of the coefficients that are done, which stand behind those that are left.
use Rattle.std.proofs.Common.{◌≡◌, ℕ, ◌<◌, ◌++◌, get_or}
use Rattle.std.specs.Prelude.{map, reverse}
use Rattle.nearest.specs.Search.{value_at}
use Rattle.nearest.proofs.values.values_at.Given as goal

abbrev pub invariant-loop-coefficient : goal.invariant-loop-coefficient
invariant-loop-coefficient g l =
    let done = reverse (map (λ b. b.now) l.yielded) in
    record {
      left : l.coefficient-iterator.iter.rest.now ++ done ≡ l.polynomial;
      valued : (k : ℕ) → k < g.row.N → get_or l.values k 0 ≡ value_at (get_or l.numbers k 0) done;
    }
