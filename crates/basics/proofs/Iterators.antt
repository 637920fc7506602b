-- What code learns of an iterator that is run to its end, where every run gives the same list; and of `array::from_fn`, element by element.
use mathlib.Core.Path.{◌≡◌, sym, ◌∙◌, subst}
use mathlib.Core.List.{List}
use Prim.Native.Nat.{ℕ, zero, suc, ◌+◌, ◌≤◌, ◌<◌}
use native.Mathlib.Nat.{not-suc-le-zero, le_of_suc-le-suc, zero-add}
use native.Mathlib.Omega.{arith}
use lib.ListN.{get_or}
use denote.Param.Members.{Mut, Called}
use Rattle.std.specs.Array.{IsFromFnResult, IsFromFnResultFrom}
use Rattle.std.specs.Iterator.{Drains}
use Rattle.std.specs.declared.option.Option.{Option}
use Rattle.std.proofs.lemmas.List.{map-id}
use Rattle.std.proofs.lemmas.Iterator.{YieldsList, items_from_drains}

-- the items that came, where the iterator yields a list
pub drained : {S A : Type 0} {steps : S → Option A → S → Type 0} {s : S} {all : List A}
    → (items : List A) → Drains steps s items → YieldsList steps (λ x. x) s all → items ≡ all
drained items d yields = sym (map-id items) ∙ items_from_drains items (d.1.0, d.1.1, λ _. (d.0, d.1.2)) yields

-- ---- `array::from_fn`, of a closure that keeps what it captures: a large array, whose calls no search goes through one by one
module _ {F B : Type 0} (g : Mut F (ℕ × Unit {0}) B) (f : F) (P : ℕ → B → Type 0) (n : ℕ)
    (call : (i : ℕ) (y : B) (q : F) → i < n → Called g f (i, tt) y q → (q ≡ f) × P i y) where
  each_from : (ys : List B) (i m k : ℕ) (d : B) → i + m ≤ n → IsFromFnResultFrom g f ys i m → k < m → P (i + k) (get_or ys (i + k) d)
  each_from ys i zero k d le r h = absurd (not-suc-le-zero h)
  each_from ys i (suc m) zero d le r h =
      let e : i ≡ i + 0 = omega arith in
      let p : P i (r.1) = (call i r.1 r.0 (omega arith) r.3).1 in
      subst (λ (j : ℕ). P j (get_or ys j d)) e (subst (P i) (sym (r.2.1 d)) p)
  each_from ys i (suc m) (suc k) d le r h =
      let e : i + 1 + k ≡ i + suc k = omega arith in
      let kept = (call i r.1 r.0 (omega arith) r.3).0 in
      subst (λ (j : ℕ). P j (get_or ys j d)) e
      (each_from ys (i + 1) m k d (omega arith) (subst (λ (q : F). IsFromFnResultFrom g q ys (i + 1) m) kept r.4) (le_of_suc-le-suc h))

  pub from_fn_at : (ys : List B) → IsFromFnResult g f ys n → (i : ℕ) (d : B) → i < n → P i (get_or ys i d)
  from_fn_at ys r i d h =
      subst (λ (j : ℕ). P j (get_or ys j d)) (zero-add i) (each_from ys 0 n i d (omega arith) r.each h)
