-- The byte is added at the top (`byte_added`); each turn doubles once (`bits_turn`), so that after n turns 8 - n doublings are left to do.
use mathlib.Core.Path.{◌≡◌}
use Prim.Native.Nat.{◌-◌}
use Rattle.crc.specs.Register.{byte_step, doubled}
use Rattle.crc.proofs.Divisor.byte_step.Given as goal

abbrev pub invariant-loop : goal.invariant-loop
invariant-loop l = doubled 32 l.self.polynomial (8 - l.counter) l.sum ≡ byte_step 32 l.self.polynomial l.register l.byte
