-- DEMAND 1: every call takes all inputs, ends, and answers or refuses by a number from its table, the lowest that applies; a refusal returns that number
-- only, and changes no state and no byte of a lent buffer. That a call takes all inputs and ends is shown by its having no `requires` and being proved. Here:
-- what its contract says. A state is given and returned by value. `every_call_holds` in proofs/Demand1.antt is the proof; CallsForC.antt has the calls for C.
use Rattle.std.specs.Prelude.{◌≡◌, true, List, [], ◌∷◌, ◌++◌, ℕ, ◌≤◌, Result, Err}
use Rattle.std.specs.Borrow.{Bor}
use Rattle.refusals.specs.Numbers.{number_of, number_in}
use Rattle.refusals.specs.Table.{Row, first_of}
use Rattle.refusals.specs.declared.Refusal.{Refusal}
use Rattle.header.specs.Calls.{code_table, CodeHeaderOutcome}
use Rattle.header_reading.specs.Reading.{read_table, ReadHeaderOutcome}
use Rattle.fast_channel.specs.Level.{LevelOutcome}
use Rattle.header.specs.declared.Fields.{Fields}
use Rattle.header.specs.declared.Header.{Header}
use Rattle.opening.specs.Opening.{open_table, OpenOutcome}
use Rattle.repairing.specs.Repairing.{repair_table, RepairOutcome, shown_bytes, shown_place}
use Rattle.sender.specs.Put.{put_table, PutOutcome}
use Rattle.sender.specs.Waiting.{waiting_table, WaitingOutcome}
use Rattle.sending.specs.Next.{next_table, NextOutcome}
use Rattle.sender.specs.declared.Sender.{Sender}
use Rattle.receiver.specs.Applying.{apply_table, ApplyOutcome}
use Rattle.receiver.specs.declared.Receiver.{Receiver}
use Rattle.list.specs.Entries.{entry_table, EntryOutcome, PacketOutcome}

-- A call with its inputs: the answers, and contents of the lent buffers after it, with which it meets its contract; what the buffers held before; the paper's
-- number of an answer (01, last section), 0 for none; which answers refuse, and with which number; the call's table of refusals.
pub record Demand1 {Answer Lent : Type 0} (Meets : Answer → Lent → Type 0) (before : Lent) (number_of : Answer → ℕ)
    (Refuses : Answer → ℕ → Type 0) (table : List Row) : Type 0 where
  -- there is an answer, ..
  pub answered : (answer : Answer) × ((after : Lent) × Meets answer after)
  -- .. and only one, with one content of each lent buffer;
  pub one_outcome : (answer₁ answer₂ : Answer) (after₁ after₂ : Lent) → Meets answer₁ after₁ → Meets answer₂ after₂
      → (answer₁ ≡ answer₂) × (after₁ ≡ after₂)
  -- its number is the table's: that of the first row that applies, 0 for none;
  pub number : (answer : Answer) (after : Lent) → Meets answer after → number_of answer ≡ first_of table
  -- of the rows that apply the one with the lowest number is given;
  pub lowest : (earlier later : List Row) (row : Row) → table ≡ earlier ++ row ∷ later → row.applies ≡ true → first_of table ≤ row.number
  -- an answer whose number is not 0 is the refusal with that number;
  pub refused : (answer : Answer) (after : Lent) → Meets answer after → (number_of answer ≡ 0 → ⊥) → Refuses answer (number_of answer)
  -- a refusal's number is not 0, so that by `number` it is a row's, and every lent byte is as it was
  pub refusal : (answer : Answer) (number : ℕ) (after : Lent) → Meets answer after → Refuses answer number
      → (number ≡ 0 → ⊥) × (after ≡ before)

-- An answer refuses with a number, if it is the answer for the refusal that has this number in the paper's table: `refused` gives the answer for each.
abbrev pub RefusesWith : {Answer : Type 0} → (Refusal → Answer) → Answer → ℕ → Type 0
RefusesWith refused answer number = (refusal : Refusal) × ((answer ≡ refused refusal) × (number_of refusal ≡ number))

-- of a call that answers a Result: it refuses with the error that has the number
abbrev pub RefusesByTable : {Done Lent : Type 0} → (Result Done Refusal → Lent → Type 0) → Lent → List Row → Type 0
RefusesByTable Meets before table = Demand1 Meets before number_in (RefusesWith Err) table

-- of a call that refuses nothing, and writes nothing
abbrev pub RefusesNothing : {Answer : Type 0} → (Answer → Type 0) → Type 0
RefusesNothing Meets = Demand1 {Lent = Unit {0}} (λ answer after. Meets answer) tt (λ answer. 0) (λ answer number. ⊥) []

-- The calls, each with all its inputs.
pub record EveryCall : Type 1 where
  pub put : (queue : List ℕ) (sender : Sender) (packet : List ℕ)
      → RefusesByTable (PutOutcome queue sender packet) queue (put_table queue sender.start sender.used packet)
  pub next_frame : (taps : ℕ) (fields : Fields) (sender : Sender) (queue out : List ℕ)
      → RefusesByTable {Lent = List ℕ × List ℕ} (λ answer after. NextOutcome taps fields sender queue out answer after.0 after.1)
      (queue, out) (next_table taps fields sender.start sender.used queue out)
  pub open_frame : (taps : ℕ) (frame area : List ℕ) → RefusesByTable (OpenOutcome taps frame area) area (open_table taps frame area)
  pub repair : (taps : ℕ) (part scratch : List ℕ) → RefusesByTable (RepairOutcome taps part scratch) scratch (repair_table taps part scratch)
  pub apply : (header : Header) (area : List ℕ) (receiver : Receiver) (hold list : List ℕ)
      → RefusesByTable {Lent = List ℕ × List ℕ} (λ answer after. ApplyOutcome header area receiver hold list answer after.0 after.1)
      (hold, list) (apply_table header area receiver hold list)
  pub code_header : (header : Header) (out : List ℕ) → RefusesByTable (CodeHeaderOutcome header out) out (code_table header out)
  -- the calls below write nothing; the last three refuse nothing
  pub waiting : (queue : List ℕ) (sender : Sender)
      → RefusesByTable {Lent = Unit {0}} (λ answer after. WaitingOutcome queue sender answer) tt (waiting_table queue sender.start sender.used)
  pub read : (bytes : List ℕ) → RefusesByTable {Lent = Unit {0}} (λ answer after. ReadHeaderOutcome bytes answer) tt (read_table bytes)
  pub entry : (list : List ℕ) (position : ℕ)
      → RefusesByTable {Lent = Unit {0}} (λ answer after. EntryOutcome list position answer) tt (entry_table list position)
  -- the bytes handed back after a repair and where they stand; an empty part at a refusal of `repair`
  pub shown : {E : Type 0} (answer : Result ℕ E) (part scratch : Bor (List ℕ))
      → RefusesNothing {Answer = List ℕ × (ℕ × ℕ)}
      (λ r. (r.0 ≡ shown_bytes answer part.now scratch.now) × (r.1 ≡ shown_place answer part scratch))
  -- the bytes handed back and where they stand; an empty part at an end or a refusal of `entry`
  pub packet : (list : List ℕ) (from : ℕ × ℕ) (position : ℕ)
      → RefusesNothing {Answer = List ℕ × (ℕ × ℕ)} (λ answer. PacketOutcome list from position answer.0 answer.1)
  pub level : (code : ℕ) → RefusesNothing (LevelOutcome code)
