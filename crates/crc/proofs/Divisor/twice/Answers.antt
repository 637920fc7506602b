-- The code is the definition; the register stays below 2^32 (`twice_lt`).
use Rattle.std.proofs.Common.{refl}
use Rattle.division.specs.Doubling.{twice}
use Rattle.division.proofs.Doubling.{twice_lt}
use Rattle.crc.proofs.Divisor.twice.Goals as goal

pub overflow_cast-result : goal.overflow_cast-result
unfolding twice
overflow_cast-result c = record { fits = twice_lt 32 c.args.self.polynomial c.args.register c.args.self.of_degree_32 c.ranges.register.fits }

pub returns : goal.returns
unfolding twice
returns c = refl
