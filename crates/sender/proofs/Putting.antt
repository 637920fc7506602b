-- What a put that is not refused may lean on; any two outcomes of `put` are equal; and what putting does to the queue that the bytes stand for (demand 3).
use mathlib.Core.Path.{◌≡◌, refl, sym, ap, ◌∙◌}
use mathlib.Core.Bool.{Bool, true, false, false≢true, ◌||◌}
use mathlib.Core.Logic.{◌⊎◌, inl, inr, ⊎_elim}
use mathlib.Core.List.{List, [], ◌++◌}
use Prim.Native.Nat.{ℕ, ◌+◌, ◌%◌, ◌≤◌, ◌<◌}
use native.Mathlib.Omega.{arith}
use lib.Dec.{eqb}
use lib.ListN.{length, get_or, take}
use borrow.Author.Tests.{eqb-true, eqb-false, ltb-false}
use Rattle.basics.specs.Lists.{Bytes}
use Rattle.basics.specs.Numbers.{above}
use Rattle.basics.proofs.Lists.{bytes_take}
use Rattle.std.specs.Prelude.{Result, Ok}
use Rattle.refusals.specs.Numbers.{answer_by, judged_by}
use Rattle.refusals.specs.Table.{◌when◌}
use Rattle.refusals.specs.declared.Refusal.{Refusal}
use Rattle.refusals.proofs.Numbers.{passed, answered}
use Rattle.lent.specs.Written.{written}
use Rattle.refusals.proofs.Table.{by-zero, unless_passed, row_passed}
use Rattle.lent.proofs.Written.{take_written}
use Rattle.link.specs.Link.{IsPacket, Queue}
use Rattle.link.proofs.Machine.{with_packet}
use Rattle.link.specs.Store.{marked}
use Rattle.link.specs.Parsing.{parse}
use Rattle.link.proofs.RoundTrip.{parse_put}
use Rattle.ring.specs.Ring.{round_from, ring_written}
use Rattle.ring.proofs.Laws.{round_length, round_bytes, ring_append, ring_read, ring_bytes}
use Rattle.ring.proofs.Places.{round_keeps}
use Rattle.marks.specs.Queue.{used_in, is_ring_whole}
use Rattle.marks.proofs.Used.{ring_passed}
use Rattle.sender.specs.declared.Sender.{Sender}
use Rattle.sender.specs.Put.{put_refusal, put_sender, put_bytes, PutOutcome}
use Rattle.sender.proofs.Stands.{Stands}

pub record PutPassed (queue : List ℕ) (start used : ℕ) (packet : List ℕ) : Type 0 where
  pub long : length queue ≡ 32768
  pub within : start < 32768
  pub least : 1 ≤ length packet
  pub most : length packet ≤ 9000
  pub room : used + 2 + length packet ≤ 32768

neither_true : (a b : Bool) → (a || b) ≡ false → (a ≡ false) × (b ≡ false)
neither_true true b e = absurd (false≢true (sym e))
neither_true false b e = (refl, e)

pub put_passed : (queue : List ℕ) (start used : ℕ) (packet : List ℕ) → put_refusal queue start used packet ≡ 0 → PutPassed queue start used packet
unfolding put_refusal
put_passed queue start used packet e =
    let n = length packet in
    let size = unless_passed 2 (eqb (length queue) 32768) _ (omega arith) e in
    let whole = unless_passed 3 (is_ring_whole queue start used) _ (omega arith) size.1 in
    let fits = row_passed (4 when (eqb n 0 || above n 9000)) _ (omega arith) whole.1 in
    let room = row_passed (5 when above (used + 2 + n) 32768) [] (omega arith) fits.1 in
    let neither = neither_true (eqb n 0) (above n 9000) fits.0 in
    record {
      long = eqb-true (length queue) 32768 size.0;
      within = (ring_passed queue start used whole.0).within;
      least = omega (arith, eqb-false n 0 neither.0);
      most = ltb-false 9000 n neither.1;
      room = ltb-false 32768 (used + 2 + n) room.0;
    }

-- as the judge answers it
pub put_judged : {queue : List ℕ} {start used : ℕ} {packet : List ℕ} {given : Unit {0}} → Ok given ≡ judged_by (put_refusal queue start used packet)
    → PutPassed queue start used packet
put_judged {queue} {start} {used} {packet} e = put_passed queue start used packet (passed _ _ _ e)

-- the mark is written, then the packet
pub put_written : {queue : List ℕ} {start used : ℕ} {packet : List ℕ} → PutPassed queue start used packet
    → ring_written (ring_written queue start used (marked (length packet) [])) start (used + 2) packet ≡ put_bytes queue start used packet
put_written {queue} {start} {used} {packet} p =
    ring_append queue start used (marked (length packet) []) packet (omega (arith, p.long, p.within)) (omega (arith, p.long, p.room))

-- ---- demand 3

-- the answer tells that the packet was taken
pub taken_zero : (n : ℕ) (after sender : Sender) → Ok after ≡ answer_by n sender → (n ≡ 0) × (after ≡ sender)
taken_zero n after sender e =
    let none = passed n after sender e in
    let same : ◌≡◌ {A = Result Sender Refusal} (Ok after) (Ok sender) = e ∙ sym (answered n sender sender none refl) in
    (none, cc)

-- Every byte that is not behind the used ones, as far as mark and packet reach, keeps its value.
pub put_keeps : (bytes : List ℕ) (sender : Sender) (packet : List ℕ) (sender' : Sender) (bytes' : List ℕ)
    → PutOutcome bytes sender packet (Ok sender') bytes'
    → (i : ℕ) → i < 32768 → (i < sender.used) ⊎ (sender'.used ≤ i) → get_or bytes' ((sender.start + i) % 32768) 0 ≡ get_or bytes ((sender.start + i) % 32768) 0
put_keeps bytes sender packet sender' bytes' outcome i l outside =
    let start = sender.start in
    let used = sender.used in
    let number = put_refusal bytes start used packet in
    let taken = taken_zero number sender' (put_sender sender packet) outcome.answer in
    let p = put_passed bytes start used packet taken.0 in
    let mark = marked (length packet) packet in
    let new : bytes' ≡ put_bytes bytes start used packet = outcome.bytes ∙ by-zero number _ bytes taken.0 in
    let count : sender'.used ≡ used + length mark = ap (λ (s : Sender). s.used) taken.1 ∙ omega arith in
    ap (λ (b : List ℕ). get_or b ((start + i) % 32768) 0) new
    ∙ round_keeps bytes start used mark p.long p.within (omega (arith, p.room)) i l (⊎_elim (λ h. inl h) (λ h. inr (omega (arith, count))) outside)

-- What is taken is a packet, and stands behind the others.
pub put_stands : (bytes : List ℕ) (sender : Sender) (packet : List ℕ) (sender' : Sender) (bytes' : List ℕ) (i : ℕ) (queue : Queue)
    → PutOutcome bytes sender packet (Ok sender') bytes' → Bytes packet → Stands bytes sender i queue
    → IsPacket packet × Stands bytes' sender' i (with_packet queue packet)
put_stands bytes sender packet sender' bytes' i queue outcome p s =
    let start = sender.start in
    let used = sender.used in
    let number = put_refusal bytes start used packet in
    let taken = taken_zero number sender' (put_sender sender packet) outcome.answer in
    let passed = put_passed bytes start used packet taken.0 in
    let is-packet : IsPacket packet = (passed.least, passed.most) in
    let mark = marked (length packet) packet in
    let round = round_from start bytes in
    let size : length round ≡ 32768 = round_length start bytes ∙ passed.long in
    let new : bytes' ≡ put_bytes bytes start used packet = outcome.bytes ∙ by-zero number _ bytes taken.0 in
    let long : used + 2 + length packet ≡ used + length mark = omega arith in
    let front : used_in (put_bytes bytes start used packet) start (used + 2 + length packet) ≡ used_in bytes start used ++ mark =
    ap (take (used + 2 + length packet))
    (ring_read bytes start used mark (omega (arith, passed.long, passed.within)) (omega (arith, passed.long, passed.room)))
    ∙ ap (λ (n : ℕ). take n (written round used mark)) long ∙ take_written round used mark (omega (arith, size, passed.room)) in (
      is-packet,
      rw (taken.1, new) (record {
        are_bytes = ring_bytes bytes start used mark s.are_bytes (omega (arith, passed.most), (omega arith, p));
        parsed = ap parse front
            ∙ parse_put (used_in bytes start used) queue packet (bytes_take used round (round_bytes start bytes s.are_bytes)) s.parsed is-packet;
        number = s.number;
      }),
    )
