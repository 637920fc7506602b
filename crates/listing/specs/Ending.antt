-- How a listing goes on, and how it ends.
use Rattle.std.specs.Prelude.{Bool, true, false, Result, Ok, Err}
use Rattle.std.specs.declared.ops.ControlFlow.{ControlFlow}
use Rattle.std.specs.declared.ops.ControlFlow.TheVariants.{Continue, Break}
use Rattle.listing.specs.declared.ending.Incomplete.{Incomplete}
use Rattle.listing.specs.declared.ending.Incomplete.TheVariants.{NotPrinted}

-- how a listing ends: complete, or why it is not
abbrev pub Ending : Type 0
Ending = Result (Unit {0}) Incomplete

-- after a line: what printing it answers, and whether its frame is whole
abbrev pub after_line : {E : Type 0} → Result (Unit {0}) E → Bool → ControlFlow Ending (Unit {0})
after_line (Err error) is_whole = Break (Err NotPrinted)
after_line (Ok printed) true = Continue tt
after_line (Ok printed) false = Break (Ok tt)

-- once standard output is closed, by what that answers: a listing is complete only where that has not failed
abbrev pub after_close : {E : Type 0} → Ending → Result (Unit {0}) E → Ending
after_close (Ok complete) (Ok closed) = Ok tt
after_close (Ok complete) (Err error) = Err NotPrinted
after_close (Err reason) closed = Err reason
