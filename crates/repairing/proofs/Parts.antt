-- The repaired header written over a body, and then the repaired payload put behind it, give the body as repaired.
use mathlib.Core.Path.{◌≡◌, sym, ap, ap₂, ◌∙◌}
use mathlib.Core.List.{List, ◌++◌, append-nil}
use Prim.Native.Nat.{ℕ, ◌-◌}
use native.Mathlib.Nat.{le_of_eq, zero-add}
use borrow.Rule.Slice.PartMut.{put_mid}
use lib.ListN.{length, take, drop, length-drop, drop_of_length-le}
use lib.Seq.{take_at, drop_at}
use Rattle.basics.proofs.Lists.{cut_rest_lem}
use Rattle.lent.specs.Written.{written}
use Rattle.nearest.specs.Near.{repaired_header}
use Rattle.repairing.specs.Body.{repaired_payload, repaired_body}
use Rattle.repairing.proofs.Lengths.{front_length}

module _ (body written_over : List ℕ) (long : length body ≡ 2072) (over_long : length written_over ≡ 2072)
    (over : written_over ≡ written body 0 (repaired_header (take 32 body))) where
  abbrev header : List ℕ
  header = repaired_header (take 32 body)

  over_is : written_over ≡ header ++ drop 32 body
  unfolding written
  over_is = over ∙ ap (λ (n : ℕ). header ++ drop n body) (zero-add (length header) ∙ front_length body long)

  pub payload_kept : take 2040 (drop 32 written_over) ≡ drop 32 body
  payload_kept =
      ap (λ (n : ℕ). take (n - 32) (drop 32 written_over)) (sym over_long) ∙ cut_rest_lem written_over 32 ∙ ap (drop 32) over_is
      ∙ drop_at header (drop 32 body) 32 (front_length body long)

  pub put_together : (payload : List ℕ) → payload ≡ repaired_payload (take 2040 (drop 32 written_over))
      → put_mid 32 2040 written_over payload ≡ repaired_body body
  unfolding repaired_body
  put_together payload e =
      ap₂ (λ (front behind : List ℕ). front ++ (payload ++ behind))
      (ap (take 32) over_is ∙ take_at header (drop 32 body) 32 (front_length body long))
      (drop_of_length-le (drop 32 written_over) (le_of_eq (length-drop 32 written_over ∙ ap (λ (n : ℕ). n - 32) over_long)))
      ∙ ap (λ (l : List ℕ). header ++ l) (append-nil payload ∙ e ∙ ap repaired_payload payload_kept)
