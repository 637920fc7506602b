-- What follows from demand 1, of the library's calls and of those for C: each clause is used, so that none can go, or say less, unseen. (`answered` is what
-- Histories.antt is built on.)
use mathlib.Core.Path.{◌≡◌, refl, sym, ap, subst, ◌∙◌}
use mathlib.Core.Bool.{true, false, ◌||◌, false≢true}
use mathlib.Core.List.{List, [], ◌∷◌}
use Prim.Native.Nat.{ℕ, ◌+◌, ◌≤◌}
use native.Mathlib.Omega.{arith}
use lib.Dec.{eqb}
use denote.Ref.{Bor}
use lib.IntN.{ℤ, pos, neg_ℤ}
use lib.ListN.{length}
use Rattle.basics.specs.Sizes.{queue_size, most_packet}
use Rattle.basics.specs.Numbers.{above}
use Rattle.std.specs.Prelude.{Option, Result, Err}
use Rattle.refusals.specs.Numbers.{number_of, number_in}
use Rattle.refusals.specs.Table.{Row, ◌when◌, ◌unless◌, first_of}
use Rattle.refusals.specs.declared.Refusal.{Refusal}
use Rattle.refusals.specs.declared.Refusal.TheVariants.{Taps, Length, ListEntry}
use Rattle.refusals.proofs.Numbers.{refusal_back, number_above}
use Rattle.refusals.proofs.Table.{numbers_of}
use Rattle.scrambler.specs.Scrambler.{taps_allowed}
use Rattle.header.specs.Calls.{code_table, CodeHeaderOutcome}
use Rattle.header.specs.declared.Fields.{Fields}
use Rattle.header.specs.declared.Header.{Header}
use Rattle.header_reading.specs.Reading.{read_table, read_refusal, ReadHeaderOutcome}
use Rattle.fast_channel.specs.Level.{LevelOutcome}
use Rattle.opening.specs.Opening.{open_table, open_refusal, OpenOutcome}
use Rattle.opening.specs.declared.Opened.{Opened}
use Rattle.repairing.specs.Repairing.{repair_table, RepairOutcome, shown_bytes, shown_place}
use Rattle.marks.specs.Queue.{is_ring_whole}
use Rattle.sender.specs.Put.{put_table, PutOutcome}
use Rattle.sender.specs.Waiting.{waiting_table, WaitingOutcome}
use Rattle.sender.specs.declared.Sender.{Sender}
use Rattle.sender.specs.declared.Counted.{Counted}
use Rattle.sending.specs.Next.{next_table, NextOutcome}
use Rattle.sending.specs.declared.Sent.{Sent}
use Rattle.receiver.specs.Applying.{apply_table, apply_refusal, ApplyOutcome}
use Rattle.receiver.specs.declared.Receiver.{Receiver}
use Rattle.receiver.specs.declared.Applied.{Applied}
use Rattle.list.specs.declared.Place.{Place}
use Rattle.list.specs.Entries.{entry_table, length_at, packet_at, place_at, EntryOutcome, PacketOutcome}
use Rattle.flat.specs.Headers.{no_header}
use Rattle.flat.specs.declared.headers.FlatFields.{FlatFields}
use Rattle.flat.specs.declared.headers.FlatHeader.{FlatHeader}
use Rattle.flat.specs.declared.states.FlatReceiver.{FlatReceiver}
use Rattle.flat.specs.declared.states.FlatSender.{FlatSender}
use Rattle.flat.specs.declared.FlatPut.{FlatPut}
use Rattle.flat.specs.declared.FlatWaiting.{FlatWaiting}
use Rattle.flat.specs.declared.FlatNext.{FlatNext}
use Rattle.flat.specs.declared.FlatOpen.{FlatOpen}
use Rattle.flat.specs.declared.FlatRepair.{FlatRepair}
use Rattle.flat.specs.declared.FlatApply.{FlatApply}
use Rattle.flat.specs.declared.FlatCode.{FlatCode}
use Rattle.flat.specs.declared.FlatRead.{FlatRead}
use Rattle.flat.specs.declared.FlatEntry.{FlatEntry}
use Rattle.flat.specs.declared.FlatPacket.{FlatPacket}
use Rattle.taqwelim.specs.Calls.{FreshSenderCall, PutCall, WaitingCall, NextCall, FreshReceiverCall, OpenCall, RepairCall, ApplyCall, EntryCall}
use Rattle.taqwelim.specs.Calls.{PacketCall, CodeCall, ReadCall, LevelCall}
use Rattle.demands.specs.Demand1.{Demand1, RefusesWith, RefusesByTable}
use Rattle.demands.proofs.Outcomes.{among, first_among, refused_as}
use Rattle.demands.proofs.Demand1.{every_call_holds}
use Rattle.demands.proofs.CallsForC.{every_call_for_c_holds}

-- The row that applies first is the one given: the answer for its refusal, and every lent byte as it was (`number`, `refused`, `refusal`).
module _ {A B : Type 0} {Meets : A → B → Type 0} {before : B} {number_by : A → ℕ} {refused : Refusal → A} {table : List Row}
    (demand : Demand1 Meets before number_by (RefusesWith refused) table) where
  first_given : (refusal : Refusal) → first_of table ≡ number_of refusal → (answer : A) (after : B) → Meets answer after
      → (answer ≡ refused refusal) × (after ≡ before)
  first_given refusal first answer after o =
      let e = demand.number answer after o ∙ first in
      let refuses = subst (RefusesWith refused answer) e (demand.refused answer after o (λ z. number_above refusal (sym e ∙ z))) in
      (refused_as refuses ∙ ap refused (refusal_back refusal), (demand.refusal answer (number_of refusal) after o refuses).1)

-- ---- the numbers of each call, in its order (01, "Refusal numbers"; 02, M-106 and M-101)

pub numbers_of_put : (queue : List ℕ) (start used : ℕ) (packet : List ℕ) → numbers_of (put_table queue start used packet) ≡ 2 ∷ 3 ∷ 4 ∷ 5 ∷ []
numbers_of_put queue start used packet = refl

pub numbers_of_waiting : (queue : List ℕ) (start used : ℕ) → numbers_of (waiting_table queue start used) ≡ 2 ∷ 3 ∷ []
numbers_of_waiting queue start used = refl

pub numbers_of_next : (taps : ℕ) (fields : Fields) (start used : ℕ) (queue out : List ℕ)
    → numbers_of (next_table taps fields start used queue out) ≡ 1 ∷ 2 ∷ 3 ∷ 6 ∷ []
numbers_of_next taps fields start used queue out = refl

pub numbers_of_open : (taps : ℕ) (frame area : List ℕ) → numbers_of (open_table taps frame area) ≡ 1 ∷ 2 ∷ 7 ∷ 8 ∷ 9 ∷ 11 ∷ 12 ∷ 13 ∷ []
numbers_of_open taps frame area = refl

pub numbers_of_repair : (taps : ℕ) (part scratch : List ℕ) → numbers_of (repair_table taps part scratch) ≡ 1 ∷ 2 ∷ 8 ∷ 12 ∷ []
numbers_of_repair taps part scratch = refl

pub numbers_of_apply : (header : Header) (area : List ℕ) (receiver : Receiver) (hold list : List ℕ)
    → numbers_of (apply_table header area receiver hold list) ≡ 2 ∷ 3 ∷ 11 ∷ 14 ∷ 15 ∷ []
numbers_of_apply header area receiver hold list = refl

pub numbers_of_code : (header : Header) (out : List ℕ) → numbers_of (code_table header out) ≡ 2 ∷ 6 ∷ []
numbers_of_code header out = refl

pub numbers_of_read : (bytes : List ℕ) → numbers_of (read_table bytes) ≡ 2 ∷ 9 ∷ 11 ∷ []
numbers_of_read bytes = refl

pub numbers_of_entry : (list : List ℕ) (position : ℕ) → numbers_of (entry_table list position) ≡ 16 ∷ []
numbers_of_entry list position = refl

-- ---- the library's calls: without bytes, or with tap 0 clear

pub put_refused : (sender : Sender) (packet : List ℕ) (answer : Result Sender Refusal) (after : List ℕ) → PutOutcome [] sender packet answer after
    → (answer ≡ Err Length) × (after ≡ [])
unfolding first_of
put_refused sender packet = first_given (every_call_holds.put [] sender packet) Length refl

pub waiting_refused : (sender : Sender) (answer : Result Counted Refusal) → WaitingOutcome [] sender answer → answer ≡ Err Length
unfolding first_of
waiting_refused sender answer o = (first_given (every_call_holds.waiting [] sender) Length refl answer tt o).0

pub next_refused : (fields : Fields) (sender : Sender) (queue out : List ℕ) (answer : Result Sent Refusal) (after : List ℕ × List ℕ)
    → NextOutcome 0 fields sender queue out answer after.0 after.1 → (answer ≡ Err Taps) × (after ≡ (queue, out))
unfolding first_of taps_allowed
next_refused fields sender queue out = first_given (every_call_holds.next_frame 0 fields sender queue out) Taps refl

pub open_refused : (frame area : List ℕ) (answer : Result Opened Refusal) (after : List ℕ)
    → OpenOutcome 0 frame area answer after → (answer ≡ Err Taps) × (after ≡ area)
unfolding first_of taps_allowed
open_refused frame area = first_given (every_call_holds.open_frame 0 frame area) Taps refl

pub repair_refused : (part scratch : List ℕ) (answer : Result ℕ Refusal) (after : List ℕ)
    → RepairOutcome 0 part scratch answer after → (answer ≡ Err Taps) × (after ≡ scratch)
unfolding first_of taps_allowed
repair_refused part scratch = first_given (every_call_holds.repair 0 part scratch) Taps refl

-- one part is shown, and after a refusal it is empty
pub shown_none : {E : Type 0} (refusal : E) (part scratch : Bor (List ℕ)) (r : List ℕ × (ℕ × ℕ))
    → (r.0 ≡ shown_bytes (Err refusal) part.now scratch.now) × (r.1 ≡ shown_place (Err refusal) part scratch) → r.0 ≡ []
unfolding shown_bytes shown_place
shown_none refusal part scratch r o =
    ap (λ (x : List ℕ × (ℕ × ℕ)). x.0)
    ((every_call_holds.shown (Err refusal) part scratch).one_outcome r ([], part.ref_ptr) tt tt o (refl, refl)).0

pub apply_refused : (header : Header) (receiver : Receiver) (hold list : List ℕ) (answer : Result Applied Refusal) (after : List ℕ × List ℕ)
    → ApplyOutcome header [] receiver hold list answer after.0 after.1 → (answer ≡ Err Length) × (after ≡ (hold, list))
unfolding first_of
apply_refused header receiver hold list = first_given (every_call_holds.apply header [] receiver hold list) Length refl

pub code_refused : (header : Header) (answer : Result (Unit {0}) Refusal) (after : List ℕ)
    → CodeHeaderOutcome header [] answer after → (answer ≡ Err Length) × (after ≡ [])
unfolding first_of
code_refused header = first_given (every_call_holds.code_header header []) Length refl

pub read_refused : (answer : Result Header Refusal) → ReadHeaderOutcome [] answer → answer ≡ Err Length
unfolding first_of
read_refused answer o = (first_given (every_call_holds.read []) Length refl answer tt o).0

pub entry_refused : (answer : Result (Option Place) Refusal) → EntryOutcome [] 1 answer → answer ≡ Err ListEntry
unfolding first_of length_at
entry_refused answer o = (first_given (every_call_holds.entry [] 1) ListEntry refl answer tt o).0

-- there is one answer (`one_outcome`): no bytes of an empty list, and the level of 255
pub packet_none : (from : ℕ × ℕ) (part : List ℕ) (at : ℕ × ℕ) → PacketOutcome [] from 0 part at → part ≡ []
unfolding packet_at length_at
packet_none from part at o =
    ap (λ (answer : List ℕ × (ℕ × ℕ)). answer.0)
    ((every_call_holds.packet [] from 0).one_outcome (part, at) ([], (from.0, place_at [] 0 + from.1)) tt tt o
    (record { bytes = refl; block = refl; place = refl })).0

pub level_read : (r : ℤ) → LevelOutcome 255 r → r ≡ neg_ℤ (pos 6396930)
level_read r o = ((every_call_holds.level 255).one_outcome r (neg_ℤ (pos 6396930)) tt tt o refl).0

-- an empty packet is never refused for want of room (`lowest`), ..
pub never_5 : (queue : List ℕ) (sender : Sender) (answer : Result Sender Refusal) (after : List ℕ) → PutOutcome queue sender [] answer after → number_in answer ≤ 4
never_5 queue sender answer after o =
    rw ((every_call_holds.put queue sender []).number answer after o)
    ((every_call_holds.put queue sender []).lowest
    (2 unless eqb (length queue) queue_size ∷ 3 unless is_ring_whole queue sender.start sender.used ∷ [])
    (5 when above (sender.used + 2 + 0) queue_size ∷ [])
    (4 when (eqb 0 0 || above 0 most_packet)) refl refl)

-- .. and no answer has a number that is none of its table's (`number`): ..
never_first : (table : List Row) (n : ℕ) → (n ≡ 0 → ⊥) → among n (numbers_of table) ≡ false → first_of table ≡ n → ⊥
never_first table n ne none is =
    false≢true (sym none ∙ subst (λ (n : ℕ). among n (numbers_of table) ≡ true) is (first_among table (λ z. ne (sym is ∙ z))))

module _ {A B : Type 0} {Meets : Result A Refusal → B → Type 0} {before : B} {table : List Row} (demand : RefusesByTable Meets before table) where
  never_given : (n : ℕ) → (n ≡ 0 → ⊥) → among n (numbers_of table) ≡ false → (answer : Result A Refusal) (after : B) → Meets answer after
      → number_in answer ≡ n → ⊥
  never_given n ne none answer after o is = never_first table n ne none (sym (demand.number answer after o) ∙ is)

-- .. applying never refuses with 16, ..
pub never_16 : (header : Header) (area : List ℕ) (receiver : Receiver) (hold list hold' list' : List ℕ)
    → ApplyOutcome header area receiver hold list (Err ListEntry) hold' list' → ⊥
never_16 header area receiver hold list hold' list' o =
    never_given (every_call_holds.apply header area receiver hold list) 16 (λ z. omega arith) refl (Err ListEntry) (hold', list') o refl

-- .. and 10 is never given (02, M-100): not by open or apply, and not by read_header
pub never_10 : (header : Header) (area : List ℕ) (receiver : Receiver) (hold list : List ℕ) (answer : Result Applied Refusal) (hold' list' : List ℕ)
    → ApplyOutcome header area receiver hold list answer hold' list' → number_in answer ≡ 10 → ⊥
never_10 header area receiver hold list answer hold' list' =
    never_given (every_call_holds.apply header area receiver hold list) 10 (λ z. omega arith) refl answer (hold', list')

pub never_10_opened : (taps : ℕ) (frame area : List ℕ) (answer : Result Opened Refusal) (area' : List ℕ)
    → OpenOutcome taps frame area answer area' → number_in answer ≡ 10 → ⊥
never_10_opened taps frame area = never_given (every_call_holds.open_frame taps frame area) 10 (λ z. omega arith) refl

pub never_10_read : (bytes : List ℕ) (answer : Result Header Refusal) → ReadHeaderOutcome bytes answer → number_in answer ≡ 10 → ⊥
never_10_read bytes answer = never_given (every_call_holds.read bytes) 10 (λ z. omega arith) refl answer tt

-- .. nor is it the number of one of their tables, whatever the inputs
pub never_10_applies : (header : Header) (area : List ℕ) (receiver : Receiver) (hold list : List ℕ) → apply_refusal header area receiver hold list ≡ 10 → ⊥
unfolding apply_refusal
never_10_applies header area receiver hold list = never_first (apply_table header area receiver hold list) 10 (λ z. omega arith) refl

pub never_10_opens : (taps : ℕ) (frame area : List ℕ) → open_refusal taps frame area ≡ 10 → ⊥
unfolding open_refusal
never_10_opens taps frame area = never_first (open_table taps frame area) 10 (λ z. omega arith) refl

pub never_10_reads : (bytes : List ℕ) → read_refusal bytes ≡ 10 → ⊥
unfolding read_refusal
never_10_reads bytes = never_first (read_table bytes) 10 (λ z. omega arith) refl

-- no put refuses with 0 (`refusal`): a refusal has a number of the table
pub never_0 : (queue : List ℕ) (sender : Sender) (packet : List ℕ) (answer : Result Sender Refusal) (after : List ℕ)
    → PutOutcome queue sender packet answer after → RefusesWith Err answer 0 → ⊥
never_0 queue sender packet answer after o h = ((every_call_holds.put queue sender packet).refusal answer 0 after o h).0 refl

-- ---- the calls for C: the state comes back as it was given, with zeros beside it

pub c_put_refused : (sender : FlatSender) (packet : List ℕ) (r : FlatPut) (after : List ℕ) → PutCall [] sender packet r after
    → r ≡ record { sender = sender; refusal = 2 }
unfolding first_of
c_put_refused sender packet r after o = (first_given (every_call_for_c_holds.put [] sender packet) Length refl r after o).0

pub c_waiting_refused : (sender : FlatSender) (r : FlatWaiting) → WaitingCall [] sender r → r ≡ record { packets = 0; bytes = 0; refusal = 2 }
unfolding first_of
c_waiting_refused sender r o = (first_given (every_call_for_c_holds.waiting [] sender) Length refl r tt o).0

pub c_next_refused : (fields : FlatFields) (sender : FlatSender) (queue out : List ℕ) (r : FlatNext) (queue' out' : List ℕ)
    → NextCall 0 fields sender queue out r queue' out' → r ≡ record { sender = sender; kind = 0; refusal = 1 }
unfolding first_of taps_allowed
c_next_refused fields sender queue out r queue' out' o =
    (first_given (every_call_for_c_holds.next_frame 0 fields sender queue out) Taps refl r (queue', out') o).0

pub c_open_refused : (frame area : List ℕ) (r : FlatOpen) (after : List ℕ) → OpenCall 0 frame area r after → r ≡ record { header = no_header; repaired = 0; refusal = 1 }
unfolding first_of taps_allowed
c_open_refused frame area r after o = (first_given (every_call_for_c_holds.open_frame 0 frame area) Taps refl r after o).0

pub c_repair_refused : (part scratch : List ℕ) (r : FlatRepair) (after : List ℕ) → RepairCall 0 part scratch r after
    → r ≡ record { repaired = 0; refusal = 1 }
unfolding first_of taps_allowed
c_repair_refused part scratch r after o = (first_given (every_call_for_c_holds.repair 0 part scratch) Taps refl r after o).0

pub c_apply_refused : (header : FlatHeader) (receiver : FlatReceiver) (hold list : List ℕ) (r : FlatApply) (hold' list' : List ℕ)
    → ApplyCall header [] receiver hold list r hold' list' → r ≡ record { receiver = receiver; packets = 0; listed = 0; missed = 0; refusal = 2 }
unfolding first_of
c_apply_refused header receiver hold list r hold' list' o =
    (first_given (every_call_for_c_holds.apply header [] receiver hold list) Length refl r (hold', list') o).0

pub c_entry_refused : (r : FlatEntry) → EntryCall [] 1 r → r ≡ record { start = 0; length = 0; next = 0; found = 0; refusal = 16 }
unfolding first_of length_at
c_entry_refused r o = (first_given (every_call_for_c_holds.entry [] 1) ListEntry refl r tt o).0

pub c_code_refused : (header : FlatHeader) (r : FlatCode) (after : List ℕ) → CodeCall header [] r after → r ≡ record { refusal = 2 }
unfolding first_of
c_code_refused header r after o = (first_given (every_call_for_c_holds.code_header header []) Length refl r after o).0

pub c_read_refused : (r : FlatRead) → ReadCall [] r → r ≡ record { header = no_header; refusal = 2 }
unfolding first_of
c_read_refused r o = (first_given (every_call_for_c_holds.read []) Length refl r tt o).0

pub c_fresh_sender : (r : FlatSender) → FreshSenderCall r → r ≡ record { start = 0; used = 0; next = 0 }
c_fresh_sender r o = (every_call_for_c_holds.sender_begins.one_outcome r _ tt tt o refl).0

pub c_fresh_receiver : (r : FlatReceiver) → FreshReceiverCall r → r ≡ record { held = 0; expected = 0; expects = 0 }
c_fresh_receiver r o = (every_call_for_c_holds.receiver_begins.one_outcome r _ tt tt o refl).0

pub c_packet_one : (list : List ℕ) (position : ℕ) (r₁ r₂ : FlatPacket) → PacketCall list position r₁ → PacketCall list position r₂ → r₁ ≡ r₂
c_packet_one list position r₁ r₂ o₁ o₂ = ((every_call_for_c_holds.packet list position).one_outcome r₁ r₂ tt tt o₁ o₂).0

pub c_level_read : (r : ℤ) → LevelCall 255 r → r ≡ neg_ℤ (pos 6396930)
c_level_read r o = ((every_call_for_c_holds.level 255).one_outcome r (neg_ℤ (pos 6396930)) tt tt o refl).0
