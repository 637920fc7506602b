-- What stands at a position of an area: a record, none where the records end, or a refusal where it is against the rules.
use Rattle.std.specs.Prelude.{Option, Result}
use Rattle.refusals.specs.declared.Refusal.{Refusal}
use Rattle.packing.specs.declared.Record.{Record}

abbrev pub Found : Type 0
Found = Result (Option Record) Refusal
