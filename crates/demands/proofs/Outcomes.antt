-- Demand 1 of a call, from what its contract determines by the number of its table.
use mathlib.Core.Path.{◌≡◌, refl, sym, ap, subst, ◌∙◌}
use mathlib.Core.Bool.{Bool, true, false, cond, ◌||◌}
use mathlib.Core.List.{List, [], ◌∷◌, ◌++◌}
use Prim.Native.Nat.{ℕ}
use lib.Dec.{eqb}
use borrow.Author.Tests.{eq-eqb}
use Rattle.std.specs.Prelude.{Result, Ok, Err}
use Rattle.refusals.specs.Numbers.{number_of, refusal_of, answer_by, number_in}
use Rattle.refusals.specs.Table.{Row, first_of, by}
use Rattle.refusals.specs.declared.Refusal.{Refusal}
use Rattle.refusals.proofs.Numbers.{known, numbered, refusal_back, number_above}
use Rattle.refusals.proofs.Table.{by-above, numbers_of, rising_from, lowest_first}
use Rattle.demands.specs.Demand1.{RefusesWith, RefusesByTable, RefusesNothing}

-- whether a number is one of some
abbrev pub among : ℕ → List ℕ → Bool
among number [] = false
among number (n ∷ numbers) = eqb number n || among number numbers

-- a table's number that is not 0 is one of its rows'
pub first_among : (table : List Row) → (first_of table ≡ 0 → ⊥) → among (first_of table) (numbers_of table) ≡ true
unfolding first_of
first_among [] ne = absurd (ne refl)
first_among (row ∷ rows) ne = go row.applies refl (first_among rows)
  where
    behind : (test : Bool) {more : Bool} → more ≡ true → (test || more) ≡ true
    behind true e = refl
    behind false e = e

    go : (test : Bool) → row.applies ≡ test → ((first_of rows ≡ 0 → ⊥) → among (first_of rows) (numbers_of rows) ≡ true)
        → among (first_of (row ∷ rows)) (numbers_of (row ∷ rows)) ≡ true
    go true t more = rw (t, eq-eqb row.number row.number refl)
    go false t more =
        let e : first_of (row ∷ rows) ≡ first_of rows = rw t in
        subst (λ (n : ℕ). among n (numbers_of (row ∷ rows)) ≡ true) (sym e) (behind (eqb (first_of rows) row.number) (more (λ z. ne (e ∙ z))))

-- a row that does not apply changes no number
pub left_out : (a b : List Row) (row : Row) → row.applies ≡ false → first_of (a ++ row ∷ b) ≡ first_of (a ++ b)
unfolding first_of
left_out [] b row e = rw e
left_out (first ∷ a) b row e = ap (λ (n : ℕ). cond first.applies first.number n) (left_out a b row e)

-- ---- what refuses with a number

module _ {F : Type 0} {refused : Refusal → F} {answer : F} {n : ℕ} where
  -- is the answer of that number's refusal, ..
  pub refused_as : RefusesWith refused answer n → answer ≡ refused (refusal_of n)
  refused_as h = h.1.0 ∙ ap refused (sym (refusal_back h.0) ∙ ap refusal_of h.1.1)

  -- .. and the number is not 0
  pub refused_above : RefusesWith refused answer n → n ≡ 0 → ⊥
  refused_above h z = number_above h.0 (h.1.1 ∙ z)

-- A call whose contract determines the answer by its table's number, and what is lent: `value`, which is what it was before if the number is not 0.
module _ {A B : Type 0} (Meets : Result A Refusal → B → Type 0) (done : A)
    (table : List Row) (rising : rising_from 0 (numbers_of table) ≡ true) (listed : known (numbers_of table) ≡ true)
    (before value : B) (same : (first_of table ≡ 0 → ⊥) → value ≡ before) (is : Meets (answer_by (first_of table) done) value)
    (tells : (answer : Result A Refusal) (after : B) → Meets answer after → (answer ≡ answer_by (first_of table) done) × (after ≡ value)) where
  number_so : (answer : Result A Refusal) (after : B) → Meets answer after → number_in answer ≡ first_of table
  number_so answer after o = ap number_in (tells answer after o).0 ∙ numbered table done listed

  refused_so : (answer : Result A Refusal) → (number_in answer ≡ 0 → ⊥) → RefusesWith Err answer (number_in answer)
  refused_so (Ok given) ne = absurd (ne refl)
  refused_so (Err refusal) ne = (refusal, (refl, refl))

  pub call_holds : RefusesByTable Meets before table
  call_holds = record {
    answered = (answer_by (first_of table) done, (value, is));
    one_outcome = λ r₁ r₂ a₁ a₂ x y. ((tells r₁ a₁ x).0 ∙ sym (tells r₂ a₂ y).0, (tells r₁ a₁ x).1 ∙ sym (tells r₂ a₂ y).1);
    number = number_so;
    lowest = lowest_first table rising;
    refused = λ r after o ne. refused_so r ne;
    refusal = λ r n after o e.
        let number_is : n ≡ first_of table = sym e.1.1 ∙ ap number_in (sym e.1.0) ∙ number_so r after o in
        (refused_above e, (tells r after o).1 ∙ same (λ z. refused_above e (number_is ∙ z)));
  }

-- what a refused call was lent is as it was
pub refusal_keeps : {A B : Type 0} {Meets : Result A Refusal → B → Type 0} {before : B} {table : List Row} (demand : RefusesByTable Meets before table)
    (refusal : Refusal) (after : B) → Meets (Err refusal) after → after ≡ before
refusal_keeps demand refusal after o = (demand.refusal (Err refusal) (number_of refusal) after o (refusal, (refl, refl))).1

-- Such calls with one buffer, which goes by the number as the answer does, with two, or with none.
module _ {A : Type 0} (done : A) (table : List Row) (rising : rising_from 0 (numbers_of table) ≡ true) (listed : known (numbers_of table) ≡ true) where
  abbrev answer_so : Result A Refusal
  answer_so = answer_by (first_of table) done

  abbrev left : List ℕ → List ℕ → List ℕ
  left new old = by (first_of table) new old

  unwritten : (new old : List ℕ) → (first_of table ≡ 0 → ⊥) → left new old ≡ old
  unwritten new old ne = by-above (first_of table) new old ne

  pub one_lent : (Meets : Result A Refusal → List ℕ → Type 0) (new old : List ℕ) → Meets answer_so (left new old)
      → ((answer : Result A Refusal) (after : List ℕ) → Meets answer after → (answer ≡ answer_so) × (after ≡ left new old))
      → RefusesByTable Meets old table
  one_lent Meets new old is tells = call_holds Meets done table rising listed old (left new old) (unwritten new old) is tells

  pub two_lent : (Meets : Result A Refusal → List ℕ → List ℕ → Type 0) (new₁ old₁ new₂ old₂ : List ℕ)
      → Meets answer_so (left new₁ old₁) (left new₂ old₂)
      → ((answer : Result A Refusal) (after₁ after₂ : List ℕ) → Meets answer after₁ after₂
      → (answer ≡ answer_so) × ((after₁ ≡ left new₁ old₁) × (after₂ ≡ left new₂ old₂)))
      → RefusesByTable {Lent = List ℕ × List ℕ} (λ answer after. Meets answer after.0 after.1) (old₁, old₂) table
  two_lent Meets new₁ old₁ new₂ old₂ is tells =
      call_holds (λ answer after. Meets answer after.0 after.1) done table rising listed (old₁, old₂) (left new₁ old₁, left new₂ old₂)
      (λ ne j. (unwritten new₁ old₁ ne j, unwritten new₂ old₂ ne j)) is
      (λ r after o. let t = tells r after.0 after.1 o in (t.0, λ j. (t.1.0 j, t.1.1 j)))

  pub none_lent : RefusesByTable {Lent = Unit {0}} (λ answer after. answer ≡ answer_so) tt table
  none_lent = call_holds (λ answer after. answer ≡ answer_so) done table rising listed tt tt (λ ne. refl) refl (λ r after o. (o, refl))

-- A call that refuses nothing: its contract determines the answer.
module _ {A : Type 0} (Meets : A → Type 0) (done : A) (is : Meets done) (tells : (answer : A) → Meets answer → answer ≡ done) where
  pub never_refuses : RefusesNothing Meets
  unfolding first_of
  never_refuses = record {
    answered = (done, (tt, is));
    one_outcome = λ r₁ r₂ a₁ a₂ x y. (tells r₁ x ∙ sym (tells r₂ y), refl);
    number = λ r after o. refl;
    lowest = lowest_first [] refl;
    refused = λ r after o ne. ne refl;
    refusal = λ r n after o e. absurd e;
  }
