-- One record is joined: what is written into the list and the hold, and what that is to `on_piece`.
use mathlib.Core.Path.{◌≡◌, refl, sym, ap, ◌∙◌}
use mathlib.Core.Bool.{Bool, true, false}
use mathlib.Core.List.{List, [], ◌∷◌, ◌++◌, append-nil}
use Prim.Native.Nat.{ℕ, ◌+◌, ◌≤◌}
use native.Mathlib.Nat.{add-zero}
use native.Mathlib.Omega.{arith}
use lib.ListN.{length, take, length-append}
use lib.Seq.{length-take-le}
use Rattle.lent.specs.Written.{written}
use Rattle.lent.proofs.Written.{written_append, written_nothing, written_behind}
use Rattle.link.specs.Link.{on_piece, most_joined}
use Rattle.link.specs.Store.{marked, layout_packets}
use Rattle.joining.specs.declared.growing.Joined.{Joined}
use Rattle.joining.specs.Growing.{grown, Ready, Growable, StepOutcome}

-- an entry of the list, in three parts
pub entry_written : (list : List ℕ) (at : ℕ) (held rest : List ℕ) → at + 2 + length held + length rest ≤ length list
    → written (written (written list at (marked (length held + length rest) [])) (at + 2) held) (at + 2 + length held) rest
    ≡ written list at (layout_packets ((held ++ rest) ∷ []))
entry_written list at held rest h =
    let mark = length held + length rest in
    let two : at + length (marked mark held) ≡ at + 2 + length held = omega arith in
    let entry : marked mark (held ++ rest) ≡ layout_packets ((held ++ rest) ∷ []) = rw (append-nil, length-append) in
    ap (λ l. written l (at + 2 + length held) rest) (written_append list at (marked mark []) held (omega arith))
    ∙ ap (λ (n : ℕ). written (written list at (marked mark held)) n rest) (sym two)
    ∙ written_append list at (marked mark held) rest (omega arith)
    ∙ ap (written list at) entry

pub entry_length : (held rest : List ℕ) → length (layout_packets ((held ++ rest) ∷ [])) ≡ 2 + length held + length rest
entry_length held rest = simp length-append (omega arith)

-- ---- a record behind a part

module _ {part : ℕ} {last : Bool} {bytes : List ℕ} {before : Joined} {hold list : List ℕ} (g : Growable part last bytes before hold list) where
  most : most_joined last ≤ 9000
  most = go last
    where
      go : (b : Bool) → most_joined b ≤ 9000
      go true = omega arith
      go false = omega arith

  pub inside : part + length bytes ≤ 9000
  inside = omega (arith, most, g.fitting)

  pub grows_whole : (list' : List ℕ) → last ≡ true → list' ≡ written list before.listed (layout_packets ((take part hold ++ bytes) ∷ []))
      → StepOutcome (grown (take part hold) last bytes) before hold list
      (record { held = 0; packets = before.packets + 1; listed = before.listed + 2 + (part + length bytes) }) hold list'
  grows_whole list' e w = rw e (record {
    held = refl;
    packets = refl;
    listed = omega (arith, entry_length (take part hold) bytes, length-take-le part hold (omega (arith, inside, g.hold_long)));
    hold_bytes = sym (written_nothing hold 0);
    list_bytes = w;
  })

  pub grows_part : (hold' : List ℕ) → last ≡ false → hold' ≡ written hold part bytes
      → StepOutcome (grown (take part hold) last bytes) before hold list
      (record { held = part + length bytes; packets = before.packets; listed = before.listed }) hold' list
  grows_part hold' e w = rw e (record {
    held = sym (length-append (take part hold) bytes ∙ ap (λ (n : ℕ). n + length bytes) (length-take-le part hold (omega (arith, inside, g.hold_long))));
    packets = sym (add-zero before.packets);
    listed = sym (add-zero before.listed);
    hold_bytes = w ∙ written_behind hold part bytes (omega (arith, inside, g.hold_long));
    list_bytes = sym (written_nothing list before.listed);
  })

-- ---- with nothing held, a record without "first" is skipped

pub skips : {first last : Bool} {bytes : List ℕ} {before : Joined} {hold list : List ℕ} → Ready first last bytes before hold list
    → first ≡ false → before.held ≡ 0 → StepOutcome (on_piece (take before.held hold) first last bytes) before hold list before hold list
skips {before = before} {hold = hold} {list = list} r e z = rw (e, z) (record {
  held = refl;
  packets = sym (add-zero before.packets);
  listed = sym (add-zero before.listed);
  hold_bytes = sym (written_nothing hold 0);
  list_bytes = sym (written_nothing list before.listed);
})
