-- Byte by byte: those that are done hold the product of their pair.
use mathlib.Core.Path.{◌≡◌}
use Prim.Native.Nat.{ℕ, ◌<◌}
use lib.ListN.{length, get_or}
use Rattle.field.specs.Field.{times}
use Rattle.field.proofs.products.Given as goal

abbrev pub invariant-loop-i : goal.invariant-loop-i
invariant-loop-i l =
    (length l.out ≡ 16) × ((k : ℕ) → k < l.i → get_or l.out k 0 ≡ times (get_or l.a k 0) (get_or l.b k 0))
