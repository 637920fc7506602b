-- What `unbroken` and `gaps` say, and how they go on by one frame.
use mathlib.Core.Path.{◌≡◌, refl, sym}
use mathlib.Core.Logic.{◌↔◌}
use mathlib.Core.Bool.{true, false, ◌||◌, or-true, true≢false}
use Prim.Native.Nat.{ℕ, zero, suc, ◌-◌, ◌≤◌, ◌<◌}
use native.Mathlib.Nat.{le_refl}
use native.Mathlib.Omega.{arith}
use native.Mathlib.Decide.{dec_le, ℕ_discrete}
use lib.Dec.{ltb}
use borrow.Author.Tests.{lt-ltb, le-ltb}
use Rattle.basics.proofs.Tests.{left_true, right_true}
use Rattle.link.specs.Ledger.{Mark, lost, accepted, by_mark, unbroken, lost_before, any_before, gap}

is_accepted : (m : Mark) → by_mark m false true ≡ true → m ≡ accepted
is_accepted lost e = absurd (true≢false (sym e))
is_accepted accepted e = refl

module _ (mark : ℕ → Mark) where
  -- ---- unbroken

  pub unbroken_accepted : (from i : ℕ) → mark i ≡ accepted → unbroken mark from (suc i) ≡ unbroken mark from i
  unbroken_accepted from i e = rw (e, or-true)

  pub unbroken_lost : (from i : ℕ) → from ≤ i → mark i ≡ lost → unbroken mark from (suc i) ≡ false
  unbroken_lost from i h e = rw (e, le-ltb i from h)

  before : (from i : ℕ) → i ≤ from → unbroken mark from i ≡ true
  before from zero h = refl
  before from (suc i) h = rw (lt-ltb i from h) (before from i (omega arith))

  pub unbroken_here : (i : ℕ) → mark i ≡ accepted → unbroken mark i (suc i) ≡ true
  unbroken_here i e = rw (unbroken_accepted i i e, before i i (le_refl i))

  means : (from n : ℕ) → unbroken mark from n ≡ true → (j : ℕ) → from ≤ j → j < n → mark j ≡ accepted
  means from zero e j a b = absurd (omega arith)
  means from (suc n) e j a b = go (ℕ_discrete j n) (means from n (right_true (ltb n from || by_mark (mark n) false true) (unbroken mark from n) e) j a)
    where
      go : Dec (j ≡ n) → (j < n → mark j ≡ accepted) → mark j ≡ accepted
      go (yes z) r =
          rw z (is_accepted (mark n)
          (rw (le-ltb n from (omega arith)) at (left_true (ltb n from || by_mark (mark n) false true) (unbroken mark from n) e)))
      go (no z) r = r (omega arith)

  holds : (from n : ℕ) → ((j : ℕ) → from ≤ j → j < n → mark j ≡ accepted) → unbroken mark from n ≡ true
  holds from zero h = refl
  holds from (suc n) h = go (dec_le from n) (holds from n (λ j a b. h j a (omega arith)))
    where
      go : Dec (from ≤ n) → unbroken mark from n ≡ true → unbroken mark from (suc n) ≡ true
      go (yes a) r = rw (unbroken_accepted from n (h n a (omega arith)), r)
      go (no a) r = before from (suc n) (omega arith)

  -- The test is what it should be: every frame from the one with the first piece to the one with the last was accepted.
  pub unbroken_iff : (from to : ℕ) → (unbroken mark from (suc to) ≡ true) ↔ ((j : ℕ) → from ≤ j → j ≤ to → mark j ≡ accepted)
  unbroken_iff from to = (λ e j a b. means from (suc to) e j a (omega arith), λ h. holds from (suc to) (λ j a b. h j a (omega arith)))

  -- ---- gaps

  record Since (a b : ℕ) : Type 0 where
    any : any_before mark b ≡ true
    number : lost_before mark b ≡ b - a - 1

  since : (a b : ℕ) → a < b → mark a ≡ accepted → ((j : ℕ) → a < j → j < b → mark j ≡ lost) → Since a b
  since a zero h e l = absurd (omega arith)
  since a (suc b) h e l = go (ℕ_discrete a b) (λ k. since a b k e (λ j x y. l j x (omega arith)))
    where
      go : Dec (a ≡ b) → (a < b → Since a b) → Since a (suc b)
      go (yes z) r = let y : mark b ≡ accepted = rw z at e in record { any = rw y; number = rw y (omega arith) }
      go (no z) r =
          let y : mark b ≡ lost = l b (omega arith) (omega arith) in
          let s : Since a b = r (omega arith) in
          record { any = rw y s.any; number = rw (y, s.number) (omega arith) }

  -- The gap before frame b is the number of frames from the accepted frame a to it, if all of these were lost ..
  pub gap_is : (a b : ℕ) → a < b → mark a ≡ accepted → ((j : ℕ) → a < j → j < b → mark j ≡ lost) → gap mark b ≡ b - a - 1
  gap_is a b h e l = let s = since a b h e l in rw (s.any, s.number)

  -- .. and 0 if none before it was accepted.
  pub gap_first : (b : ℕ) → ((j : ℕ) → j < b → mark j ≡ lost) → gap mark b ≡ 0
  gap_first b l = rw (none_before b l)
    where
      none_before : (b : ℕ) → ((j : ℕ) → j < b → mark j ≡ lost) → any_before mark b ≡ false
      none_before zero l = refl
      none_before (suc b) l = rw (l b (omega arith)) (none_before b (λ j h. l j (omega arith)))
