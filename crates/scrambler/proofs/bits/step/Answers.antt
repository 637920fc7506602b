-- The code is the definition, with the sum of digits as a count of ones (`parity`).
use mathlib.Core.Path.{ap}
use Prim.Native.Nat.{ℕ, ◌+◌, ◌*◌, ◌/◌, ◌^◌}
use Rattle.scrambler.specs.Scrambler.{next}
use Rattle.scrambler.proofs.Steps.{parity}
use Rattle.scrambler.proofs.bits.step.Goals as goal

pub returns : goal.returns
unfolding next
returns c = ap (λ (new : ℕ). c.args.stages / 2 + new * 2 ^ 24) (parity c.args.taps c.args.stages c.requires)
