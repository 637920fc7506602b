-- A step of the register of one word, place by place.
use mathlib.Core.Path.{◌≡◌, refl, sym, ap, ap₂, ◌∙◌, subst}
use mathlib.Core.List.{List, [], ◌∷◌, tail}
use Prim.Native.Nat.{ℕ, ◌+◌, ◌<◌}
use native.Mathlib.Nat.{le_of_eq}
use native.Mathlib.Numerals.{add-one}
use lib.Dec.{lit<}
use lib.Bits.{bit_xor, xor_zero_r}
use lib.ListN.{length, get_or, get_or-eq_default}
use Rattle.field.specs.Field.{times}
use Rattle.division.specs.Register.{step}
use Rattle.division.proofs.Register.{step_get_or}
use Rattle.reed_solomon.specs.Code.{generator}
use Rattle.reed_solomon.proofs.Laws.{generator_length}

tail_at : (l : List ℕ) (k : ℕ) → get_or l (k + 1) 0 ≡ get_or (tail l) k 0
tail_at [] k = refl
tail_at (x ∷ l) k = ap (λ (i : ℕ). get_or (x ∷ l) i 0) (add-one k)

module _ (coefficients register : List ℕ) (byte : ℕ) (e : coefficients ≡ generator) (long : length register ≡ 16) where
  -- the coefficient that leaves, with the byte
  abbrev leaving : ℕ
  leaving = bit_xor (get_or register 0 0) byte

  pub place : (k : ℕ) → k < 16
      → bit_xor (times leaving (get_or coefficients (k + 1) 0)) (get_or register (k + 1) 0) ≡ get_or (step times (tail generator) register byte) k 0
  place k h =
      ap₂ (λ (x i : ℕ). bit_xor (times leaving x) (get_or register i 0)) (tail_at coefficients k ∙ ap (λ (l : List ℕ). get_or (tail l) k 0) e) (add-one k)
      ∙ sym (step_get_or times (tail generator) register byte k (long ∙ sym generator_length) (subst (λ (n : ℕ). k < n) (sym generator_length) h))

  -- the last place: nothing moves up into it
  pub last_place : times leaving (get_or coefficients 16 0) ≡ get_or (step times (tail generator) register byte) 15 0
  last_place =
      sym (xor_zero_r (times leaving (get_or coefficients 16 0)))
      ∙ ap (bit_xor (times leaving (get_or coefficients 16 0))) (sym (get_or-eq_default register 0 (le_of_eq long)))
      ∙ place 15 (lit< tt)
