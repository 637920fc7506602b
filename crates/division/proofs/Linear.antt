-- The remainder of a sum is the sum of the remainders.
use mathlib.Core.Path.{◌≡◌, refl, sym, ap, ap₂, ◌∙◌}
use mathlib.Core.List.{List, [], ◌∷◌, ◌++◌}
use Prim.Native.Nat.{ℕ, zero, suc, ◌+◌, max}
use native.Mathlib.Nat.{suc_inj, suc-ne-zero, zero-max, max-zero, suc-max-suc}
use lib.Bits.{bit_xor}
use lib.ListN.{length, length-append}
use Rattle.basics.specs.Lists.{zeros}
use Rattle.division.specs.Division.{plus, scale, remainder, check}
use Rattle.division.proofs.Register.{plus_assoc, plus_comm, scale_length, plus_length, plus_self}

plus_max : (xs ys : List ℕ) → length (plus xs ys) ≡ max (length xs) (length ys)
unfolding plus
plus_max [] ys = sym (zero-max (length ys))
plus_max (x ∷ xs) [] = sym (max-zero (suc (length xs)))
plus_max (x ∷ xs) (y ∷ ys) = ap suc (plus_max xs ys) ∙ sym (suc-max-suc (length xs) (length ys))

pub plus_cross : (a b c d : List ℕ) → plus (plus a b) (plus c d) ≡ plus (plus a c) (plus b d)
plus_cross a b c d =
    plus_assoc a b (plus c d)
    ∙ ap (plus a) (sym (plus_assoc b c d) ∙ ap (λ (l : List ℕ). plus l d) (plus_comm b c) ∙ plus_assoc c b d)
    ∙ sym (plus_assoc a c (plus b d))

pub plus_append : (m n a b : List ℕ) → length m ≡ length n → plus (m ++ a) (n ++ b) ≡ plus m n ++ plus a b
unfolding plus
plus_append [] [] a b e = refl
plus_append [] (y ∷ n) a b e = absurd (suc-ne-zero (length n) (sym e))
plus_append (x ∷ m) [] a b e = absurd (suc-ne-zero (length m) e)
plus_append (x ∷ m) (y ∷ n) a b e = ap (λ (l : List ℕ). bit_xor x y ∷ l) (plus_append m n a b (suc_inj e))

module _ (times : ℕ → ℕ → ℕ) (distrib : (a b x : ℕ) → times (bit_xor a b) x ≡ bit_xor (times a x) (times b x)) where
  scale_xor : (a b : ℕ) (g : List ℕ) → scale times (bit_xor a b) g ≡ plus (scale times a g) (scale times b g)
  unfolding scale plus
  scale_xor a b [] = refl
  scale_xor a b (x ∷ g) = ap₂ (λ (h : ℕ) (t : List ℕ). h ∷ t) (distrib a b x) (scale_xor a b g)

  pub remainder_plus : (g : List ℕ) (n : ℕ) (xs ys : List ℕ) → length xs ≡ length ys
      → remainder times g n (plus xs ys) ≡ plus (remainder times g n xs) (remainder times g n ys)
  unfolding remainder plus scale
  remainder_plus g zero xs ys e = refl
  remainder_plus g (suc n) [] [] e = refl
  remainder_plus g (suc n) [] (y ∷ ys) e = absurd (suc-ne-zero (length ys) (sym e))
  remainder_plus g (suc n) (x ∷ xs) [] e = absurd (suc-ne-zero (length xs) e)
  remainder_plus g (suc n) (x ∷ xs) (y ∷ ys) e =
      let a = scale times x g in
      let b = scale times y g in
      ap (remainder times g n) (ap (λ (l : List ℕ). plus l (plus xs ys)) (scale_xor x y g) ∙ plus_cross a b xs ys)
      ∙ remainder_plus g n (plus a xs) (plus b ys)
      (plus_max a xs ∙ ap₂ max (scale_length times x g ∙ sym (scale_length times y g)) (suc_inj e) ∙ sym (plus_max b ys))

  -- so is the check of a sum of two messages
  pub check_plus : (g m n : List ℕ) → length m ≡ length n → check times g (plus m n) ≡ plus (check times g m) (check times g n)
  unfolding check remainder
  check_plus g m n e =
      let z = zeros (length g) in
      let l : length (plus m n) ≡ length n = plus_length m n (length n) e refl in
      ap₂ (λ (k : ℕ) (t : List ℕ). remainder times g k t) l
      (ap (λ (t : List ℕ). plus m n ++ t) (sym (plus_self z ∙ ap zeros (lib.ListN.length-replicate (length g) 0))) ∙ sym (plus_append m n z z e))
      ∙ remainder_plus g (length n) (m ++ z) (n ++ z) (length-append m z ∙ ap (λ (k : ℕ). k + length z) e ∙ sym (length-append n z))
      ∙ ap (λ (k : ℕ). plus (remainder times g k (m ++ z)) (remainder times g (length n) (n ++ z))) (sym e)
