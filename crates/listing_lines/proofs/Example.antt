-- The scope paper's example of a listing, letter for letter: a fresh sender's IDLE, then its frame with packet AA (01, end of "Numbers to try").
use mathlib.Core.Path.{◌≡◌, refl}
use mathlib.Core.List.{◌++◌}
use Rattle.header.specs.declared.FrameKind.TheVariants.{Idle, Data}
use Rattle.listing_lines.specs.Lines.{ascii, decimal, head_line, accepted_line}

pub example : head_line ++ accepted_line 0 0 Idle 0 0 ++ accepted_line 1 1 Data 0 1 ≡ ascii "frame txfn kind missed packets\n0 0 idle 0 0\n1 1 data 0 1\n"
unfolding head_line accepted_line decimal
example = refl
