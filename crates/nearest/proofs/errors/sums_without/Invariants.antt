-- Sum by sum: those that are done are the next sum and the product of this one.
use mathlib.Core.Path.{◌≡◌}
use Prim.Native.Nat.{ℕ, ◌+◌, ◌≤◌, ◌<◌}
use lib.Bits.{bit_xor}
use lib.ListN.{length, get_or}
use Rattle.nearest.proofs.errors.sums_without.Given as goal

abbrev pub invariant-loop-i : goal.invariant-loop-i
invariant-loop-i l =
    (l.i ≤ 15) × (length l.out ≡ 16) × (length l.sums ≡ 16) × (length l.products ≡ 16)
    × ((k : ℕ) → k < l.i → get_or l.out k 0 ≡ bit_xor (get_or l.sums (k + 1) 0) (get_or l.products k 0))
