-- The ring after a frame: what remains stands behind the new start already, and at most two bytes are written, a cut packet's new mark.
use mathlib.Core.Path.{◌≡◌, refl, sym, ap, ap₂, subst, ◌∙◌}
use mathlib.Core.Logic.{inr}
use mathlib.Core.List.{List, [], ◌∷◌}
use Prim.Native.Nat.{ℕ, ◌+◌, ◌-◌, ◌%◌, ◌≤◌, ◌<◌}
use native.Mathlib.Omega.{arith}
use lib.ListN.{length, get_or}
use Rattle.basics.specs.Lists.{Bytes}
use Rattle.basics.proofs.Lists.{bytes_take}
use Rattle.refusals.proofs.Table.{by-zero}
use Rattle.link.specs.Link.{Queue}
use Rattle.link.specs.Store.{layout}
use Rattle.link.proofs.RoundTrip.{layout_back}
use Rattle.header.specs.declared.Fields.{Fields}
use Rattle.header.specs.declared.FrameKind.{FrameKind}
use Rattle.ring.specs.Ring.{round_from, ring_written}
use Rattle.ring.proofs.Laws.{round_bytes, ring_nothing}
use Rattle.ring.proofs.Places.{round_keeps}
use Rattle.marks.specs.Queue.{used_in, waiting_in, start_after}
use Rattle.marks.proofs.Parsed.{whole_parsed}
use Rattle.marks.proofs.Used.{used_length}
use Rattle.sender.proofs.Freeing.{frees}
use Rattle.sender.specs.declared.Sender.{Sender}
use Rattle.sending.specs.Next.{kind_for, left_in, sender_after, next_refusal, NextOutcome}
use Rattle.std.specs.Prelude.{Ok}
use Rattle.sending.proofs.Left.{begun_mark, mark_short, LeftOf, fill_left, left_no_longer}
use Rattle.sending.proofs.Sending.{NextPassed, next_passed, sent_so}

no_bytes : (l : List ℕ) → length l ≡ 0 → l ≡ []
no_bytes [] e = refl
no_bytes (x ∷ l) e = absurd (omega arith)

-- a frame that is built
module _ {taps : ℕ} {fields : Fields} {sender : Sender} {bytes out : List ℕ} {sender' : Sender} {kind : FrameKind} {bytes' out' : List ℕ}
    (outcome : NextOutcome taps fields sender bytes out (Ok (record { sender = sender'; kind = kind })) bytes' out') where
  abbrev start : ℕ
  start = sender.start

  abbrev used : ℕ
  used = sender.used

  abbrev waits : List ℕ
  waits = used_in bytes start used

  abbrev queue : Queue
  queue = waiting_in bytes start used

  abbrev left : Queue
  left = left_in queue

  abbrev number : ℕ
  number = next_refusal taps fields start used bytes out

  sent : (number ≡ 0) × (sender' ≡ sender_after sender queue) × (kind ≡ kind_for queue)
  sent = sent_so number sender' (sender_after sender queue) kind (kind_for queue) outcome.answer

  pub not_refused : number ≡ 0
  not_refused = sent.0

  pub state_is : sender' ≡ sender_after sender queue
  state_is = sent.1

  pub passed : NextPassed taps fields start used bytes out
  passed = next_passed taps fields start used bytes out not_refused

  pub ring_is : bytes' ≡ ring_written bytes (start_after start used (length (layout left))) 0 (layout left)
  ring_is = outcome.bytes ∙ by-zero number _ bytes not_refused

  start_is : sender'.start ≡ start_after start used (length (layout left))
  start_is = ap (λ (s : Sender). s.start) state_is

  -- of bytes, as every lent slice holds
  module _ (are_bytes : Bytes bytes) where
    pub waits_bytes : Bytes waits
    waits_bytes = bytes_take used (round_from start bytes) (round_bytes start bytes are_bytes)

    pub laid : layout queue ≡ waits
    laid = layout_back waits queue waits_bytes (whole_parsed waits passed.whole)

    size : length waits ≡ used
    size = used_length bytes start used (omega (arith, passed.most, passed.long))

    pub left_fits : length (layout left) ≤ used
    left_fits = omega (arith, left_no_longer queue, ap length laid, size)

    -- Of the ring a frame writes the mark of a packet that it leaves begun, at the new start, and nothing else.
    pub next_writes : bytes' ≡ ring_written bytes sender'.start 0 (begun_mark left.rest)
    next_writes =
        let l : LeftOf waits left = subst (λ (all : List ℕ). LeftOf all left) laid (fill_left queue) in
        let mark = begun_mark left.rest in
        let freed = frees bytes sender l.sent passed.long passed.within passed.most (omega (arith, l.within, size))
        (l.sent - length mark) mark (layout left) (omega (arith, l.covers)) l.is refl in
        ring_is ∙ sym freed.bytes ∙ ap (λ (at : ℕ). ring_written bytes at 0 mark) (freed.begins ∙ sym start_is)

    -- So every byte but the two at the new start keeps its value.
    pub next_keeps : (i : ℕ) → 2 ≤ i → i < 32768 → get_or bytes' ((sender'.start + i) % 32768) 0 ≡ get_or bytes ((sender'.start + i) % 32768) 0
    next_keeps i l m =
        let mark = begun_mark left.rest in
        let short = mark_short left.rest in
        ap (λ (b : List ℕ). get_or b ((sender'.start + i) % 32768) 0) next_writes
        ∙ round_keeps bytes sender'.start 0 mark passed.long (omega (arith, start_is)) (omega (arith, short)) i m (inr (omega (arith, short)))

    -- Where nothing waits nothing moves: an IDLE frame changes only the TXFN.
    pub idle_keeps : used ≡ 0 → (sender'.start ≡ start) × (sender'.used ≡ 0) × (bytes' ≡ bytes)
    idle_keeps z =
        let none : length (layout left) ≡ 0 = omega (arith, left_fits, z) in
        let same : start_after start used (length (layout left)) ≡ start = omega (arith, none, z, passed.within) in (
          start_is ∙ same,
          ap (λ (s : Sender). s.used) state_is ∙ none,
          ring_is ∙ ap₂ (λ (at : ℕ) (rest : List ℕ). ring_written bytes at 0 rest) same (no_bytes (layout left) none)
              ∙ ring_nothing bytes start (omega (arith, passed.long, passed.within)),
        )
