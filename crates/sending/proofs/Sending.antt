-- What a frame that is not refused may lean on, how filling and freeing meet the contract of `next_frame`, and that any two of its outcomes are equal.
use mathlib.Core.Path.{◌≡◌, refl, sym, ap, subst, ◌∙◌}
use mathlib.Core.Bool.{true, cond, ◌&&◌}
use mathlib.Core.Option.{Option, none, some}
use mathlib.Core.List.{List, [], ◌∷◌, ◌++◌}
use Prim.Native.Nat.{ℕ, ◌≤◌, ◌<◌}
use native.Mathlib.Omega.{arith}
use lib.Dec.{eqb, leb}
use lib.ListN.{length, drop}
use borrow.Author.Tests.{eqb-true, leb-true, eq-eqb, ne_eqb}
use Rattle.basics.specs.Lists.{Bytes}
use Rattle.basics.proofs.Lists.{bytes_take}
use Rattle.basics.proofs.Tests.{left_true, right_true}
use Rattle.std.specs.Prelude.{Result, Ok}
use Rattle.refusals.specs.Numbers.{answer_by, judged_by}
use Rattle.refusals.specs.declared.Refusal.{Refusal}
use Rattle.refusals.proofs.Numbers.{passed, answered}
use Rattle.refusals.proofs.Table.{unless_passed}
use Rattle.link.specs.Link.{Packet, Queue}
use Rattle.link.specs.Store.{layout_rest, layout_packets, layout}
use Rattle.link.specs.Parsing.{is_whole}
use Rattle.link.proofs.RoundTrip.{layout_back}
use Rattle.scrambler.specs.Scrambler.{taps_allowed}
use Rattle.header.specs.Header.{fields_fit}
use Rattle.header.specs.declared.Fields.{Fields}
use Rattle.counts.specs.declared.Txfn.{Txfn}
use Rattle.header.specs.declared.FrameKind.{FrameKind}
use Rattle.header.specs.declared.FrameKind.TheVariants.{Idle, Data}
use Rattle.ring.specs.Ring.{round_from}
use Rattle.ring.proofs.Laws.{round_bytes}
use Rattle.marks.specs.Queue.{used_in, is_ring_whole, waiting_in}
use Rattle.marks.proofs.Used.{used_length, ring_passed}
use Rattle.marks.proofs.Parsed.{whole_parsed}
use Rattle.sender.specs.Filling.{remaining, FillOutcome, Freed}
use Rattle.sender.specs.declared.filling.Filled.{Filled}
use Rattle.sender.specs.declared.Sender.{Sender}
use Rattle.sending.specs.Next.{kind_for, left_in, next_refusal}
use Rattle.sending.specs.declared.Sent.{Sent}

pub record NextPassed (taps : ℕ) (fields : Fields) (start used : ℕ) (queue out : List ℕ) : Type 0 where
  pub allowed : taps_allowed taps ≡ true
  pub long : length queue ≡ 32768
  pub room : 2081 ≤ length out
  pub within : start < 32768
  pub most : used ≤ 32768
  pub whole : is_whole (used_in queue start used) ≡ true
  pub fits : fields_fit fields ≡ true

pub next_passed : (taps : ℕ) (fields : Fields) (start used : ℕ) (queue out : List ℕ) → next_refusal taps fields start used queue out ≡ 0
    → NextPassed taps fields start used queue out
unfolding next_refusal
next_passed taps fields start used queue out e =
    let allowed = unless_passed 1 (taps_allowed taps) _ (omega arith) e in
    let sizes = unless_passed 2 (eqb (length queue) 32768 && leb 2081 (length out)) _ (omega arith) allowed.1 in
    let whole = unless_passed 3 (is_ring_whole queue start used) _ (omega arith) sizes.1 in
    let fits = unless_passed 6 (fields_fit fields) [] (omega arith) whole.1 in
    let ring = ring_passed queue start used whole.0 in
    record {
      allowed = allowed.0;
      long = eqb-true (length queue) 32768 (left_true (eqb (length queue) 32768) (leb 2081 (length out)) sizes.0);
      room = leb-true 2081 (length out) (right_true (eqb (length queue) 32768) (leb 2081 (length out)) sizes.0);
      within = ring.within;
      most = ring.most;
      whole = ring.whole;
      fits = fits.0;
    }

-- as the judge answers it
pub next_judged : {taps : ℕ} {fields : Fields} {start used : ℕ} {queue out : List ℕ} {given : Unit {0}}
    → Ok given ≡ judged_by (next_refusal taps fields start used queue out) → NextPassed taps fields start used queue out
next_judged {taps} {fields} {start} {used} {queue} {out} e = next_passed taps fields start used queue out (passed _ _ _ e)

-- ---- from what filling did to the contract

-- a queue is busy where it has bytes
busy_kind : (q : Queue) (used : ℕ) → used ≡ length (layout q) → cond (eqb used 0) Idle Data ≡ kind_for q
unfolding layout
busy_kind q used = go q.rest q.waiting
  where
    go : (rest : Option (List ℕ)) (ps : List Packet) → used ≡ length (layout_rest rest ++ layout_packets ps)
        → cond (eqb used 0) Idle Data ≡ kind_for (record { rest = rest; waiting = ps })
    go none [] e = rw (eq-eqb used 0 e)
    go none (p ∷ ps) e = rw (ne_eqb used 0 (λ z. omega arith))
    go (some rest) ps e = rw (ne_eqb used 0 (λ z. omega arith))

module _ {taps : ℕ} {fields : Fields} (sender : Sender) {queue out : List ℕ} (p : NextPassed taps fields sender.start sender.used queue out) where
  abbrev bytes : List ℕ
  bytes = used_in queue sender.start sender.used

  abbrev waiting : Queue
  waiting = waiting_in queue sender.start sender.used

  pub used_is : length bytes ≡ sender.used
  used_is = used_length queue sender.start sender.used (omega (arith, p.most, p.long))

  pub kind_is : Bytes queue → cond (eqb sender.used 0) Idle Data ≡ kind_for waiting
  kind_is b =
      let is = layout_back bytes waiting (bytes_take sender.used (round_from sender.start queue) (round_bytes sender.start queue b)) (whole_parsed bytes p.whole) in
      busy_kind waiting sender.used (sym (ap length is ∙ used_is))

  module _ {filled : Filled} {after : List ℕ} (o : FillOutcome bytes filled after) where
    pub stop_within : filled.stop ≤ sender.used
    stop_within = omega (arith, o.inside, used_is)

    -- what freeing did, of the queue that is left
    pub freed_is : {left : Sender} {queue' : List ℕ} → Freed queue sender (remaining filled.unsent (drop filled.stop bytes)) left queue'
        → Freed queue sender (layout (left_in waiting)) left queue'
    freed_is {left} {queue'} f = subst (λ (rest : List ℕ). Freed queue sender rest left queue') (sym o.rest) f

-- the answer tells that a frame was sent
pub sent_so : (number : ℕ) (after sender : Sender) (kind kind' : FrameKind)
    → ◌≡◌ {A = Result Sent Refusal} (Ok (record { sender = after; kind = kind })) (answer_by number (record { sender = sender; kind = kind' }))
    → (number ≡ 0) × (after ≡ sender) × (kind ≡ kind')
sent_so number after sender kind kind' e =
    let none = passed number _ _ e in
    let given : ◌≡◌ {A = Result Sent Refusal} (Ok (record { sender = after; kind = kind })) (Ok (record { sender = sender; kind = kind' })) =
    e ∙ sym (answered number _ _ none refl) in
    let same : ◌≡◌ {A = Sent} (record { sender = after; kind = kind }) (record { sender = sender; kind = kind' }) = cc in
    (none, ap (λ (s : Sent). s.sender) same, ap (λ (s : Sent). s.kind) same)

-- an answer, part by part
pub sent_path : {start start' used used' : ℕ} {next : Txfn} {count : ℕ} {kind kind' : FrameKind}
    → start ≡ start' → used ≡ used' → next.0 ≡ count → kind ≡ kind'
    → ◌≡◌ {A = Sent} (record { sender = record { start = start; used = used; next = next }; kind = kind })
    (record { sender = record { start = start'; used = used'; next = record { 0 = count } }; kind = kind' })
sent_path o p q r i = record { sender = record { start = o i; used = p i; next = record { 0 = q i } }; kind = r i }
