-- A loop that fills an array from the front with the elements of a sequence or a list, one store a turn.
use mathlib.Core.Path.{◌≡◌, sym, ◌∙◌, subst}
use mathlib.Core.List.{List}
use Prim.Native.Nat.{ℕ, ◌+◌, ◌<◌}
use native.Mathlib.Omega.{arith}
use borrow.Author.Count.{below_more}
use lib.ListN.{length, get_or, set}
use lib.Seq.{get_or-set_same, get_or-set_other, ext_get_or}

-- one more number of a sequence v is stored
pub stored_more : (v : ℕ → ℕ) (l : List ℕ) (j x : ℕ) → ((k : ℕ) → k < j → get_or l k 0 ≡ v k) → j < length l → x ≡ v j
    → (k : ℕ) → k < j + 1 → get_or (set l j x) k 0 ≡ v k
stored_more v l j x f h e =
    below_more (λ k. get_or (set l j x) k 0 ≡ v k) j (λ k hk. get_or-set_other l j k x 0 (omega arith) ∙ f k hk) (get_or-set_same l j x 0 h ∙ e)

-- the first j elements of l are those of t
abbrev pub Filled : List ℕ → ℕ → List ℕ → Type 0
Filled t j l = (k : ℕ) → k < j → get_or l k 0 ≡ get_or t k 0

pub filled_more : (t l : List ℕ) (j v : ℕ) → Filled t j l → j < length l → v ≡ get_or t j 0 → Filled t (j + 1) (set l j v)
filled_more t l j v = stored_more (λ k. get_or t k 0) l j v

pub filled_all : (t l : List ℕ) (n : ℕ) → Filled t n l → length l ≡ n → length t ≡ n → l ≡ t
filled_all t l n f hl ht = ext_get_or 0 l t (hl ∙ sym ht) (λ k hk. f k (subst (λ (m : ℕ). k < m) hl hk))
