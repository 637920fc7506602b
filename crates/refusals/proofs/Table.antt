-- What goes `by` a number; and the laws of a table of refusals: how it is passed, how two stand one behind the other, and that the lowest number is given
-- where they rise.
use Prim.Native.Nat.{ℕ, ◌<◌, ◌≤◌}
use mathlib.Core.Bool.{Bool, true, false, ◌&&◌}
use mathlib.Core.List.{List, [], ◌∷◌, ◌++◌}
use mathlib.Core.Path.{◌≡◌, refl, sym, ◌∙◌}
use native.Mathlib.Omega.{arith}
use borrow.Author.Tests.{eq-eqb, ne_eqb, eqb-true, eqb-false, ltb-true, not-false}
use lib.Dec.{eqb, ltb}
use Rattle.basics.proofs.Tests.{left_true, right_true}
use Rattle.refusals.specs.Table.{Row, ◌unless◌, first_of, by}

-- ---- by a number: what is done where it is 0, and otherwise what there was

module _ {A : Type 0} (number : ℕ) (done old : A) where
  pub by-zero : number ≡ 0 → by number done old ≡ done
  unfolding by
  by-zero z = rw (eq-eqb number 0 z)

  pub by-above : (number ≡ 0 → ⊥) → by number done old ≡ old
  unfolding by
  by-above ne = rw (ne_eqb number 0 ne)

-- a test that passed, with those behind it
pub with_test : {a b x : Bool} → a ≡ true → x ≡ b → x ≡ (a && b)
with_test {a} {b} {x} p q = rw p q

-- ---- a table of refusals

-- a row that was passed: it does not apply, and the rows behind it were passed
pub row_passed : (row : Row) (rows : List Row) → 0 < row.number → first_of (row ∷ rows) ≡ 0 → (row.applies ≡ false) × (first_of rows ≡ 0)
unfolding first_of
row_passed row rows p e = go row.applies refl
  where
    go : (test : Bool) → row.applies ≡ test → (row.applies ≡ false) × (first_of rows ≡ 0)
    go true t = let z : row.number ≡ 0 = rw t at e in absurd (omega arith)
    go false t = (t, rw t at e)

pub unless_passed : (number : ℕ) (test : Bool) (rows : List Row) → 0 < number → first_of (number unless test ∷ rows) ≡ 0 → (test ≡ true) × (first_of rows ≡ 0)
unless_passed number test rows p e = let passed = row_passed (number unless test) rows p e in (not-false test passed.0, passed.1)

-- the numbers of a table, in its order
abbrev pub numbers_of : List Row → List ℕ
numbers_of [] = []
numbers_of (row ∷ rows) = row.number ∷ numbers_of rows

-- no number of the table is 0
abbrev pub positive : List ℕ → Bool
positive [] = true
positive (n ∷ numbers) = ltb 0 n && positive numbers

-- two tables, one behind the other: a row of the first, ..
pub first_earlier : (a b : List Row) → (first_of a ≡ 0 → ⊥) → first_of (a ++ b) ≡ first_of a
unfolding first_of
first_earlier [] b ne = absurd (ne refl)
first_earlier (row ∷ a) b ne = go row.applies refl (first_earlier a b)
  where
    go : (test : Bool) → row.applies ≡ test → ((first_of a ≡ 0 → ⊥) → first_of (a ++ b) ≡ first_of a) → first_of ((row ∷ a) ++ b) ≡ first_of (row ∷ a)
    go true t behind = rw t
    go false t behind = rw t (behind (λ z. ne (rw t z)))

-- .. or, where none of these applies, of the second
pub first_later : (a b : List Row) → positive (numbers_of a) ≡ true → first_of a ≡ 0 → first_of (a ++ b) ≡ first_of b
unfolding first_of
first_later [] b p z = refl
first_later (row ∷ a) b p z =
    let low = left_true (ltb 0 row.number) (positive (numbers_of a)) p in
    let passed = row_passed row a (ltb-true 0 row.number low) z in
    rw passed.0 (first_later a b (right_true (ltb 0 row.number) (positive (numbers_of a)) p) passed.1)

-- where both were passed each was
pub both_passed : (a b : List Row) → positive (numbers_of a) ≡ true → first_of (a ++ b) ≡ 0 → (first_of a ≡ 0) × (first_of b ≡ 0)
both_passed a b p z = go (eqb (first_of a) 0) refl
  where
    go : (test : Bool) → eqb (first_of a) 0 ≡ test → (first_of a ≡ 0) × (first_of b ≡ 0)
    go true t = let none = eqb-true (first_of a) 0 t in (none, sym (first_later a b p none) ∙ z)
    go false t = let ne = eqb-false (first_of a) 0 t in absurd (ne (sym (first_earlier a b ne) ∙ z))

-- each number of a list is above the one before, the first above n
abbrev pub rising_from : ℕ → List ℕ → Bool
rising_from n [] = true
rising_from n (m ∷ numbers) = ltb n m && rising_from m numbers

later_above : (n : ℕ) (earlier later : List Row) (row : Row) → rising_from n (numbers_of (earlier ++ row ∷ later)) ≡ true → n < row.number
later_above n [] later row rising = ltb-true n row.number (left_true _ _ rising)
later_above n (r ∷ earlier) later row rising =
    omega (
      arith,
      ltb-true n r.number (left_true _ _ rising),
      later_above r.number earlier later row (right_true (ltb n r.number) (rising_from r.number (numbers_of (earlier ++ row ∷ later))) rising),
    )

first_lowest : (n : ℕ) (earlier later : List Row) (row : Row) → row.applies ≡ true → rising_from n (numbers_of (earlier ++ row ∷ later)) ≡ true
    → first_of (earlier ++ row ∷ later) ≤ row.number
unfolding first_of
first_lowest n [] later row t rising = rw t (omega arith)
first_lowest n (r ∷ earlier) later row t rising =
    let more = right_true (ltb n r.number) (rising_from r.number (numbers_of (earlier ++ row ∷ later))) rising in
    go r.applies refl (later_above r.number earlier later row more) (first_lowest r.number earlier later row t more)
  where
    go : (test : Bool) → r.applies ≡ test → r.number < row.number → first_of (earlier ++ row ∷ later) ≤ row.number
        → first_of (r ∷ (earlier ++ row ∷ later)) ≤ row.number
    go true s above behind = rw s (omega arith)
    go false s above behind = rw s behind

-- where the numbers rise the first row that applies has the lowest number
pub lowest_first : (table : List Row) → rising_from 0 (numbers_of table) ≡ true
    → (earlier later : List Row) (row : Row) → table ≡ earlier ++ row ∷ later → row.applies ≡ true → first_of table ≤ row.number
lowest_first table rising earlier later row e t = rw e (first_lowest 0 earlier later row t (rw e at rising))
