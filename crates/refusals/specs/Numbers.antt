-- The refusals and their numbers (01, "Refusal numbers"), and the answer of a call that goes by the number of its table.
use Rattle.std.specs.Prelude.{cond, ℕ, eqb, Result, Ok, Err}
use Rattle.refusals.specs.declared.Refusal.{Refusal}
use Rattle.refusals.specs.declared.Refusal.TheVariants.{Taps, Length, State, PacketLength, NoRoom, Field, Preamble, HeaderCode, HeaderCheckSum}
use Rattle.refusals.specs.declared.Refusal.TheVariants.{FieldRule, PayloadCode, PayloadCheckSum, Packing, TooLong, ListEntry}
use Rattle.refusals.specs.Table.{by}

-- the paper's number
abbrev pub number_of : Refusal → ℕ
number_of Taps = 1
number_of Length = 2
number_of State = 3
number_of PacketLength = 4
number_of NoRoom = 5
number_of Field = 6
number_of Preamble = 7
number_of HeaderCode = 8
number_of HeaderCheckSum = 9
number_of FieldRule = 11
number_of PayloadCode = 12
number_of PayloadCheckSum = 13
number_of Packing = 14
number_of TooLong = 15
number_of ListEntry = 16

-- the refusal with a number of the table; of another number, which no call's table has, the last
unfoldable pub refusal_of : ℕ → Refusal
refusal_of number =
    cond (eqb number 1) Taps
    (cond (eqb number 2) Length
    (cond (eqb number 3) State
    (cond (eqb number 4) PacketLength
    (cond (eqb number 5) NoRoom
    (cond (eqb number 6) Field
    (cond (eqb number 7) Preamble
    (cond (eqb number 8) HeaderCode
    (cond (eqb number 9) HeaderCheckSum
    (cond (eqb number 11) FieldRule
    (cond (eqb number 12) PayloadCode
    (cond (eqb number 13) PayloadCheckSum
    (cond (eqb number 14) Packing
    (cond (eqb number 15) TooLong
    ListEntry)))))))))))))

-- an answer: what is done where the number is 0, and otherwise the refusal with that number
abbrev pub answer_by : {A : Type 0} → ℕ → A → Result A Refusal
answer_by number done = by number (Ok done) (Err (refusal_of number))

-- what a test of the inputs answers: that nothing is refused, or the refusal
abbrev pub judged_by : ℕ → Result (Unit {0}) Refusal
judged_by number = answer_by number tt

-- the paper's number of an answer, 0 where nothing is refused
abbrev pub number_in : {A : Type 0} → Result A Refusal → ℕ
number_in (Ok done) = 0
number_in (Err refusal) = number_of refusal
