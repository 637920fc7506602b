-- Arrays that a loop fills from the front, and goes through to an end, as lists.
use mathlib.Core.Path.{◌≡◌, sym, ap, ap₂, ◌∙◌, subst}
use mathlib.Core.List.{List, [], ◌∷◌, ◌++◌, append_assoc}
use Prim.Native.Nat.{ℕ, ◌+◌, ◌≤◌, ◌<◌}
use native.Mathlib.Numerals.{add-one}
use native.Mathlib.Omega.{arith}
use lib.ListN.{length, get_or, set, take, drop, drop_of_length-le, length-take}
use lib.Seq.{drop-cons, take-suc-set, get_or-take, length-take-le}

module _ {A : Type 0} where
  -- one more is stored
  pub put_next : (out rest : List A) (q : ℕ) (v : A) → q < length out → take (q + 1) (set out q v) ++ rest ≡ take q out ++ v ∷ rest
  put_next out rest q v h =
      ap (λ (n : ℕ). take n (set out q v) ++ rest) (add-one q)
      ∙ ap (λ (t : List A). t ++ rest) (take-suc-set out q v h)
      ∙ append_assoc (take q out) (v ∷ []) rest

  -- of the first m one more is read, or none is left
  pub rest_first : (l : List A) (m q : ℕ) (d : A) → q < m → m ≤ length l → drop q (take m l) ≡ get_or l q d ∷ drop (q + 1) (take m l)
  rest_first l m q d h n =
      drop-cons (take m l) q d (subst (λ (k : ℕ). q < k) (sym (length-take-le m l n)) h)
      ∙ ap₂ (λ (x : A) (k : ℕ). x ∷ drop k (take m l)) (get_or-take m l q d h) (sym (add-one q))

  pub rest_none : (l : List A) (m q : ℕ) → m ≤ q → drop q (take m l) ≡ []
  rest_none l m q h = drop_of_length-le (take m l) (subst (λ (n : ℕ). n ≤ q) (sym (length-take m l)) (omega (arith, h)))
