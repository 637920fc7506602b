-- Scrambling adds the same bits to both of two lists: they differ where they did, and so do their headers and their words.
use mathlib.Core.Path.{◌≡◌, refl, sym, ap, ◌∙◌, subst}
use mathlib.Core.List.{List}
use Prim.Native.Nat.{ℕ, ◌+◌, ◌*◌, ◌≤◌, ◌<◌}
use native.Mathlib.Omega.{arith}
use lib.Bits.{bit_xor, xor_comm}
use lib.ListN.{length, get_or, take, drop}
use lib.Seq.{length-take-le, get_or-take, get_or-drop}
use Rattle.basics.proofs.Xor.{xor_cancel}
use Rattle.reed_solomon.specs.Payload.{every_eighth}
use Rattle.reed_solomon.proofs.Interleaved.{eighth_length, eighth_at}
use Rattle.scrambler.specs.Scrambler.{key_byte, scrambled}
use Rattle.scrambler.proofs.Laws.{scrambled_length}
use Rattle.scrambler.proofs.Recurrence.{scrambled_byte}
use Rattle.nearest.specs.Near.{differences}
use Rattle.repairing.proofs.Differences.{differ_alike}
use Rattle.repairing.specs.NearPart.{NearPart}

module _ (taps : ℕ) (a b : List ℕ) (same : length a ≡ length b) where
  abbrev a' : List ℕ
  a' = scrambled taps a

  abbrev b' : List ℕ
  b' = scrambled taps b

  -- two bytes are the same exactly where they are, scrambled
  alike : (i : ℕ) → i < length a → (get_or a' i 0 ≡ get_or b' i 0 → get_or a i 0 ≡ get_or b i 0) × (get_or a i 0 ≡ get_or b i 0 → get_or a' i 0 ≡ get_or b' i 0)
  alike i h =
      let at_a = scrambled_byte taps a i h in
      let at_b = scrambled_byte taps b i (omega arith) in
      let key = key_byte taps i in
      let off : (x : ℕ) → bit_xor key (bit_xor x key) ≡ x = λ x. ap (bit_xor key) (xor_comm x key) ∙ xor_cancel key x in (
        λ e. sym (off (get_or a i 0)) ∙ ap (bit_xor key) (sym at_a ∙ e ∙ at_b) ∙ off (get_or b i 0),
        λ e. at_a ∙ ap (λ (x : ℕ). bit_xor x key) e ∙ sym at_b,
      )

  -- n bytes picked from each list at the same places
  picked_scrambled : (pick : List ℕ → List ℕ) (n : ℕ) (place : ℕ → ℕ) → ((l : List ℕ) → length l ≡ length a → length (pick l) ≡ n)
      → ((l : List ℕ) (i : ℕ) → i < n → get_or (pick l) i 0 ≡ get_or l (place i) 0) → ((i : ℕ) → i < n → place i < length a)
      → differences (pick a') (pick b') ≡ differences (pick a) (pick b)
  picked_scrambled pick n place size at within =
      let size-a' = size a' (scrambled_length taps a) in
      let size-b' = size b' (scrambled_length taps b ∙ sym same) in
      differ_alike (pick a') (pick b') (pick a) (pick b) (size-a' ∙ sym size-b') (size a refl ∙ sym size-a') (size b (sym same) ∙ sym size-a')
      (λ i h.
      let low : i < n = subst (λ (m : ℕ). i < m) size-a' h in
      let both = alike (place i) (within i low) in (
        λ e. at a i low ∙ both.0 (sym (at a' i low) ∙ e ∙ at b' i low) ∙ sym (at b i low),
        λ e. at a' i low ∙ both.1 (sym (at a i low) ∙ e ∙ at b i low) ∙ sym (at b' i low),
      ))

  pub differ_scrambled : differences a' b' ≡ differences a b
  differ_scrambled = picked_scrambled (λ l. l) (length a) (λ i. i) (λ l e. e) (λ l i h. refl) (λ i h. h)

  module _ (long : length a ≡ 2072) where
    header_scrambled : differences (take 32 a') (take 32 b') ≡ differences (take 32 a) (take 32 b)
    header_scrambled =
        picked_scrambled (take 32) 32 (λ i. i) (λ l e. length-take-le 32 l (omega arith)) (λ l i h. get_or-take 32 l i 0 h) (λ i h. omega arith)

    word_scrambled : (k : ℕ) → k < 8 → differences (every_eighth 255 k (drop 32 a')) (every_eighth 255 k (drop 32 b'))
        ≡ differences (every_eighth 255 k (drop 32 a)) (every_eighth 255 k (drop 32 b))
    word_scrambled k low =
        picked_scrambled (λ l. every_eighth 255 k (drop 32 l)) 255 (λ i. 32 + (k + 8 * i)) (λ l e. eighth_length 255 k (drop 32 l))
        (λ l i h. eighth_at 255 k (drop 32 l) i h ∙ get_or-drop 32 l (k + 8 * i) 0) (λ i h. omega arith)

    -- what is near is near scrambled
    pub scrambled_near : NearPart a b → NearPart a' b'
    scrambled_near near = record {
      header_near = subst (λ (n : ℕ). n ≤ 8) (sym header_scrambled) near.header_near;
      each_near = λ k h. subst (λ (n : ℕ). n ≤ 8) (sym (word_scrambled k h)) (near.each_near k h);
    }
