-- The answer's number is that of the refusal (`open_numbers`).
use Rattle.std.proofs.Common.{◌∙◌, sym, ap}
use Rattle.refusals.specs.Numbers.{number_in}
use Rattle.opening.proofs.Theorems.{open_numbers}
use Rattle.parts.proofs.part_open.Goals as goal

pub returns-in-Ok-clause-value : goal.returns-in-Ok-clause-value
returns-in-Ok-clause-value c = sym (ap number_in c.in-Ok.is) ∙ open_numbers c.«open».ensures

pub returns-in-Err-clause-value : goal.returns-in-Err-clause-value
returns-in-Err-clause-value c = c.from.ensures ∙ sym (ap number_in c.in-Err.is) ∙ open_numbers c.«open».ensures
