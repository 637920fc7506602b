-- The text of a listing (01, the listing program, at the end of "Numbers to try"): its head line, the line of a frame that is accepted, the line of one that is
-- refused. Text is a list of ASCII codes.
use Rattle.std.specs.Prelude.{cond, Result, Ok, Err, List, [], ◌∷◌, ◌++◌, ℕ, zero, suc, ◌+◌, ◌/◌, ◌%◌, ltb}
use Prim.Native.Char.{code}
use Prim.Native.String.{String, [] as empty, ◌∷◌ as ◌then◌}
use Rattle.header.specs.declared.FrameKind.{FrameKind}
use Rattle.header.specs.declared.FrameKind.TheVariants.{Idle, Data, Type2, Type3}
use Rattle.header.specs.declared.Header.{Header}
use Rattle.receiver.specs.declared.Applied.{Applied}

-- ---------------------------------------------------------------- words

-- the codes of a quoted text
abbrev pub ascii : String → List ℕ
ascii empty = []
ascii (letter then letters) = code letter ∷ ascii letters

-- A number in decimal, in at most k digits: without its last digit, if it has others, and then that digit.
abbrev pub decimal_in : ℕ → ℕ → List ℕ
decimal_in zero number = []
decimal_in (suc k) number = cond (ltb number 10) [] (decimal_in k (number / 10)) ++ ((48 + number % 10) ∷ [])

-- a number below 2^64 has at most 20 digits
unfoldable pub decimal : ℕ → List ℕ
decimal number = decimal_in 20 number

abbrev pub kind_word : FrameKind → List ℕ
kind_word Idle = ascii "idle"
kind_word Data = ascii "data"
kind_word Type2 = ascii "type2"
kind_word Type3 = ascii "type3"

-- ---------------------------------------------------------------- lines

-- words with one space between them, and a newline behind the last
abbrev pub line : List ℕ → List (List ℕ) → List ℕ
line word [] = word ++ ascii "\n"
line word (next ∷ words) = word ++ ascii " " ++ line next words

unfoldable pub head_line : List ℕ
head_line = ascii "frame txfn kind missed packets\n"

-- the frame's place from 0, its TXFN, kind, missed count and packets
unfoldable pub accepted_line : ℕ → ℕ → FrameKind → ℕ → ℕ → List ℕ
accepted_line place txfn kind missed packets = line (decimal place) (decimal txfn ∷ kind_word kind ∷ decimal missed ∷ decimal packets ∷ [])

-- the frame's place from 0, "refused" and the number
unfoldable pub refused_line : ℕ → ℕ → List ℕ
refused_line place number = line (decimal place) (ascii "refused" ∷ decimal number ∷ [])

-- the line of a frame that was opened, by its header and by what applying it answers
abbrev pub answer_line : ℕ → Header → Result Applied ℕ → List ℕ
answer_line place header (Ok applied) = accepted_line place header.txfn.0 header.kind applied.missed applied.packets
answer_line place header (Err number) = refused_line place number
