-- Worked consequences of demand 2 for what is repaired: what stands behind a built frame's preamble is shown as it came, and with its first byte wrong as it
-- was sent; so is the frame opened; a part without bytes is refused; and a count of 0 tells that the frame came as it would be built.
use mathlib.Core.Path.{◌≡◌, sym, ap, ◌∙◌, subst}
use mathlib.Core.Bool.{Bool, true, false, cond}
use mathlib.Core.List.{List, [], ◌∷◌, ◌++◌}
use Prim.Native.Nat.{ℕ, ◌-◌, ◌≤◌}
use native.Mathlib.Omega.{arith}
use lib.Dec.{eqb}
use lib.ListN.{length, get_or, take, drop, length-append, length-drop}
use lib.Seq.{take_at, drop_at, drop-cons, length-take-le}
use Rattle.basics.specs.Lists.{Bytes}
use Rattle.std.specs.Prelude.{Result, Ok}
use Rattle.refusals.specs.declared.Refusal.{Refusal}
use Rattle.lent.specs.Written.{written}
use Rattle.lent.proofs.Written.{bytes_written}
use Rattle.scrambler.specs.Scrambler.{taps_allowed, scrambled}
use Rattle.header.specs.Header.{ReservedBits, header_fits}
use Rattle.header.specs.declared.Header.{Header}
use Rattle.frame.specs.Frame.{frame_bytes_with}
use Rattle.frame.proofs.Laws.{frame_length}
use Rattle.reed_solomon.specs.Payload.{every_eighth}
use Rattle.nearest.specs.Near.{differences}
use Rattle.nearest.proofs.Nearness.{differences_self, self_near}
use Rattle.repairing.specs.NearPart.{Coded, NearPart}
use Rattle.repairing.specs.Repairing.{repair_refusal, RepairOutcome, shown_bytes}
use Rattle.repairing.proofs.Differences.{differ_same}
use Rattle.repairing.proofs.Coded.{near_itself}
use Rattle.opening.specs.Opening.{unscrambled, opened_reserved, OpenOutcome}
use Rattle.opening.specs.NearFrame.{NearFrame}
use Rattle.opening.specs.declared.Opened.{Opened}
use Rattle.opening.proofs.Built.{built_coded}
use Rattle.demands.specs.Demand2.{RepairableTo}
use Rattle.demands.proofs.Demand2.{demand2_holds}

-- two parts that differ in their first byte at most are near
head_near : (x y : ℕ) (rest : List ℕ) → NearPart (x ∷ rest) (y ∷ rest)
unfolding differences
head_near x y rest = record {
  header_near = omega (arith, one (eqb x y), differences_self (take 31 rest));
  each_near = λ k h. self_near (every_eighth 255 k (drop 31 rest));
}
  where
    one : (t : Bool) → cond t 0 1 ≤ 1
    one true = omega arith
    one false = omega arith

pub nothing_unrepaired : (taps : ℕ) (scratch : List ℕ) → repair_refusal taps [] scratch ≡ 0 → ⊥
nothing_unrepaired taps scratch z = let size = ((demand2_holds.repairs_exactly taps [] scratch).0 z).2.1.part_size in omega arith

module _ (taps : ℕ) (reserved : ReservedBits) (header : Header) (area : List ℕ) (long : length area ≡ 1908) (bytes : Bytes area)
    (allowed : taps_allowed taps ≡ true) where
  abbrev frame : List ℕ
  frame = frame_bytes_with taps reserved header area

  abbrev sent : List ℕ
  sent = drop 9 frame

  sent_coded : Coded (scrambled taps sent)
  unfolding unscrambled
  sent_coded = built_coded taps reserved header area long bytes

  sent_size : length sent ≡ 2072
  sent_size = length-drop 9 frame ∙ ap (λ (n : ℕ). n - 9) (frame_length reserved header taps area long)

  sent_itself : RepairableTo taps sent sent
  sent_itself = record { part_size = sent_size; coded = sent_coded; near = near_itself sent }

  pub sent_unrefused : (scratch : List ℕ) → 2072 ≤ length scratch → repair_refusal taps sent scratch ≡ 0
  sent_unrefused scratch room = (demand2_holds.repairs_exactly taps sent scratch).1 (allowed, room, (sent, sent_itself))

  pub as_sent_lem : (before : List ℕ) (answer : Result ℕ Refusal) (after : List ℕ) → 2072 ≤ length before → RepairOutcome taps sent before answer after
      → (answer ≡ Ok 0) × (shown_bytes answer sent after ≡ sent)
  as_sent_lem before answer after room o =
      let back = demand2_holds.repair_back taps sent sent before answer after allowed room sent_itself o in
      (back.0 ∙ ap (λ (n : ℕ). Ok n) (differences_self sent), back.1)

  -- its first byte is another
  module _ (wrong : ℕ) where
    abbrev part : List ℕ
    part = wrong ∷ drop 10 frame

    first_off : sent ≡ get_or frame 9 0 ∷ drop 10 frame
    first_off = drop-cons frame 9 0 (omega (arith, frame_length reserved header taps area long))

    part_near : NearPart part sent
    part_near = subst (NearPart part) (sym first_off) (head_near wrong (get_or frame 9 0) (drop 10 frame))

    part_size : length part ≡ 2072
    part_size = sym (ap length first_off) ∙ sent_size

    pub wrong_shown : (before : List ℕ) (answer : Result ℕ Refusal) (after : List ℕ) → 2072 ≤ length before → RepairOutcome taps part before answer after
        → shown_bytes answer part after ≡ sent
    wrong_shown before answer after room o =
        let to : RepairableTo taps part sent = record { part_size = part_size; coded = sent_coded; near = part_near } in
        (demand2_holds.repair_back taps part sent before answer after allowed room to o).1

    abbrev came : List ℕ
    came = take 9 frame ++ part

    front : length (take 9 frame) ≡ 9
    front = length-take-le 9 frame (omega (arith, frame_length reserved header taps area long))

    came_near : NearFrame came frame
    came_near = record {
      long = length-append (take 9 frame) part ∙ omega (arith, front, part_size);
      preamble_same = take_at (take 9 frame) part 9 front;
      behind_near = subst (λ (l : List ℕ). NearPart l sent) (sym (drop_at (take 9 frame) part 9 front)) part_near;
    }

    pub wrong_opened : (before : List ℕ) (answer : Result Opened Refusal) (after : List ℕ) → header_fits header ≡ true → 1908 ≤ length before
        → OpenOutcome taps came before answer after
        → (answer ≡ Ok (record { header = header; repaired = differences came frame })) × (after ≡ written before 0 area)
    wrong_opened before answer after fits room o =
        demand2_holds.frame_back taps reserved header area came before answer after allowed fits long bytes room came_near o

-- what is opened with a count of 0 is the very frame that would be built of the answer; and of bytes `open` leaves bytes
module _ (taps : ℕ) (frame before : List ℕ) (header : Header) (after : List ℕ) where
  pub none_wrong : OpenOutcome taps frame before (Ok (record { header = header; repaired = 0 })) after
      → (area : List ℕ) × (frame ≡ frame_bytes_with taps (opened_reserved taps frame) header area)
  none_wrong o =
      let again = demand2_holds.frame_again taps frame before (record { header = header; repaired = 0 }) after o in
      let size = frame_length (opened_reserved taps frame) header taps again.0 again.1.2 in
      (again.0, differ_same frame _ (again.1.0.long ∙ sym size) (sym again.1.5))

  pub bytes_left : (repaired : ℕ) → Bytes before → OpenOutcome taps frame before (Ok (record { header = header; repaired = repaired })) after → Bytes after
  bytes_left repaired bytes o =
      let again = demand2_holds.frame_again taps frame before (record { header = header; repaired = repaired }) after o in
      subst Bytes (sym again.1.4) (bytes_written before 0 again.0 bytes again.1.3)
