-- The 17 coefficients are the product of the standard's 16 factors, which `generator_is` multiplies out.
use mathlib.Core.Path.{sym}
use Rattle.reed_solomon.proofs.Factors.{generator_is}
use Rattle.reed_solomon.proofs.register.generator.Goals as goal

pub returns : goal.returns
returns c = sym generator_is
