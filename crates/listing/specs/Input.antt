-- How much was read of a frame.
use Rattle.std.specs.Prelude.{◌≡◌, ◌≤◌, ◌<◌, ℕ, List, Option, Result, Ok, Err, length, take}
use Rattle.std.specs.Io.KnownBytes.{IsAtEnd}

-- what was read stands at the start of the frame, and is no longer than it; the second part follows from the first, and spares callers its proof
abbrev pub Within : {E : Type 0} → Result ℕ E → List ℕ → Type 0
Within (Err error) frame = Unit {0}
Within (Ok n) frame = (n ≤ length frame) × (n ≡ length (take n frame))

-- less than a frame was read only where the input has ended, which is so where a read brings nothing; of what is left of it
abbrev pub EndsShort : {E : Type 0} → Result ℕ E → List ℕ → Option (List ℕ) → Type 0
EndsShort (Err error) frame left = Unit {0}
EndsShort (Ok n) frame left = n < length frame → IsAtEnd left
