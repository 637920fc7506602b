-- Freeing what was sent: what remains of the used bytes stands behind the new start already, but for a cut packet's new mark.
use mathlib.Core.Path.{◌≡◌, refl, sym, ap, ◌∙◌}
use mathlib.Core.List.{List, [], ◌++◌}
use Prim.Native.Nat.{ℕ, ◌+◌, ◌-◌, ◌%◌, ◌≤◌, ◌<◌}
use native.Mathlib.Omega.{arith}
use lib.ListN.{length, take, drop, length-append, length-take, length-drop}
use Rattle.basics.proofs.Lists.{drop_take}
use Rattle.link.specs.Store.{marked}
use Rattle.ring.specs.Ring.{round_from, ring_written}
use Rattle.ring.proofs.Laws.{round_length, ring_kept, ring_nothing, further_part}
use Rattle.marks.specs.Queue.{used_in, start_after}
use Rattle.std.specs.Prelude.{Some}
use Rattle.sender.specs.Filling.{remaining, Freed}
use Rattle.sender.specs.declared.Sender.{Sender}

module _ (queue : List ℕ) (sender : Sender) (stop : ℕ)
    (long : length queue ≡ 32768) (s : sender.start < 32768) (u : sender.used ≤ 32768) (f : stop ≤ sender.used) where
  abbrev start : ℕ
  start = sender.start

  abbrev used : ℕ
  used = sender.used

  abbrev rest : List ℕ
  rest = drop stop (used_in queue start used)

  -- the sender with so many bytes from there on
  abbrev waits : ℕ → ℕ → Sender
  waits from count = record { start = from; used = count; next = sender.next }

  rest_is : rest ≡ take (used - stop) (drop stop (round_from start queue))
  rest_is = drop_take stop used (round_from start queue) f (omega (arith, round_length start queue))

  rest_length : length rest ≡ used - stop
  rest_length = ap length rest_is ∙ simp (length-take, length-drop, round_length) (omega arith)

  -- k bytes are freed, and m is written before the rest
  pub frees : (k : ℕ) (m kept : List ℕ) {after : List ℕ} → k + length m ≡ stop → kept ≡ m ++ rest → after ≡ ring_written queue ((start + k) % 32768) 0 m
      → Freed queue sender kept (waits ((start + k) % 32768) (used - stop + length m)) after
  frees k m kept {after} e is w =
      let size : length kept ≡ length m + (used - stop) = ap length is ∙ length-append m rest ∙ ap (λ (n : ℕ). length m + n) rest_length in
      let freed : k ≡ used - length kept = omega (arith, size) in
      let begin : (start + k) % 32768 ≡ start_after start used (length kept) = ap (λ (n : ℕ). (start + n) % 32768) freed in
      let there : rest ≡ take (used - stop) (drop (length m) (round_from ((start + k) % 32768) queue)) =
      rest_is ∙ ap (λ (n : ℕ). take (used - stop) (drop n (round_from start queue))) (sym e)
      ∙ further_part queue start k long s (omega arith) (length m) (used - stop) (omega arith) in
      let all : ring_written queue ((start + k) % 32768) 0 kept ≡ ring_written queue ((start + k) % 32768) 0 m =
      ap (ring_written queue ((start + k) % 32768) 0) (is ∙ ap (λ (l : List ℕ). m ++ l) there)
      ∙ ring_kept queue ((start + k) % 32768) m (used - stop) (omega (arith, long)) in
      record {
        count = omega (arith, size);
        begins = begin;
        number = refl;
        bytes = w ∙ sym all ∙ ap (λ (n : ℕ). ring_written queue n 0 kept) begin;
      }

  -- filling stopped before a mark: nothing is written
  pub frees_whole : Freed queue sender rest (waits ((start + stop) % 32768) (used - stop)) queue
  frees_whole =
      let e : stop + 0 ≡ stop = omega arith in
      let same : used - stop + 0 ≡ used - stop = omega arith in
      rw same at (frees stop [] rest e refl (sym (ring_nothing queue ((start + stop) % 32768) (omega (arith, long)))))

  -- it cut a packet: the new mark is written
  pub frees_cut : (unsent : ℕ) {after : List ℕ} → 2 ≤ stop
      → after ≡ ring_written queue ((start + (stop - 2)) % 32768) 0 (marked (32768 + unsent) [])
      → Freed queue sender (remaining (Some unsent) rest) (waits ((start + (stop - 2)) % 32768) (used - stop + 2)) after
  frees_cut unsent l w = frees (stop - 2) (marked (32768 + unsent) []) (marked (32768 + unsent) rest) (omega arith) refl w
