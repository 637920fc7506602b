-- How a call's two ways out meet a contract that goes by the number of its table, given what its judge answered; and the laws of the numbers.
use Prim.Native.Nat.{ℕ}
use mathlib.Core.Bool.{Bool, true, false, cond, ◌&&◌}
use mathlib.Core.List.{List, [], ◌∷◌}
use mathlib.Core.Path.{◌≡◌, refl, sym, ap, ◌∙◌}
use native.Mathlib.Omega.{arith}
use borrow.Author.Tests.{eqb-true, eqb-false}
use lib.Dec.{eqb}
use Rattle.std.specs.Prelude.{Result, Ok, Err}
use Rattle.basics.proofs.Tests.{left_true, right_true}
use Rattle.refusals.specs.declared.Refusal.{Refusal}
use Rattle.refusals.specs.declared.Refusal.TheVariants.{Taps, Length, State, PacketLength, NoRoom, Field, Preamble, HeaderCode, HeaderCheckSum}
use Rattle.refusals.specs.declared.Refusal.TheVariants.{FieldRule, PayloadCode, PayloadCheckSum, Packing, TooLong, ListEntry}
use Rattle.refusals.specs.Numbers.{number_of, refusal_of, answer_by, number_in}
use Rattle.refusals.specs.Table.{Row, first_of, by}
use Rattle.refusals.proofs.Table.{numbers_of}

-- what is judged passes only where the number is 0
pub passed : {A : Type 0} (number : ℕ) (given done : A) → Ok given ≡ answer_by number done → number ≡ 0
unfolding by
passed {A} number given done = go (eqb number 0) refl
  where
    go : (test : Bool) → eqb number 0 ≡ test → ◌≡◌ {A = Result A Refusal} (Ok given) (cond test (Ok done) (Err (refusal_of number))) → number ≡ 0
    go true t e = eqb-true number 0 t
    go false t e = absurd (cc)

module _ {A B : Type 0} (number : ℕ) (refusal : Refusal) (judged : A) where
  -- a judge's refusal is the call's ..
  pub refused : (done : B) → Err refusal ≡ answer_by number judged → Err refusal ≡ answer_by number done
  unfolding by
  refused done = go (eqb number 0)
    where
      go : (test : Bool) → ◌≡◌ {A = Result A Refusal} (Err refusal) (cond test (Ok judged) (Err (refusal_of number)))
          → ◌≡◌ {A = Result B Refusal} (Err refusal) (cond test (Ok done) (Err (refusal_of number)))
      go true e = absurd (cc)
      go false e = cc

  -- .. and keeps what there was
  pub kept : (done old : B) → Err refusal ≡ answer_by number judged → old ≡ by number done old
  unfolding by
  kept done old = go (eqb number 0)
    where
      go : (test : Bool) → ◌≡◌ {A = Result A Refusal} (Err refusal) (cond test (Ok judged) (Err (refusal_of number))) → old ≡ cond test done old
      go true e = absurd (cc)
      go false e = refl

-- with no refusal, what was done: the answer, and what there is then
pub answered : {A : Type 0} (number : ℕ) (done given : A) → number ≡ 0 → given ≡ done → Ok given ≡ answer_by number done
unfolding by
answered number done given z e = rw (z, e)

pub stands : {A : Type 0} (number : ℕ) (done old given : A) → number ≡ 0 → given ≡ done → given ≡ by number done old
unfolding by
stands number done old given z e = rw (z, e)

-- ---- the numbers

-- a refusal is the one with its number
pub refusal_back : (refusal : Refusal) → refusal_of (number_of refusal) ≡ refusal
unfolding refusal_of
refusal_back Taps = refl
refusal_back Length = refl
refusal_back State = refl
refusal_back PacketLength = refl
refusal_back NoRoom = refl
refusal_back Field = refl
refusal_back Preamble = refl
refusal_back HeaderCode = refl
refusal_back HeaderCheckSum = refl
refusal_back FieldRule = refl
refusal_back PayloadCode = refl
refusal_back PayloadCheckSum = refl
refusal_back Packing = refl
refusal_back TooLong = refl
refusal_back ListEntry = refl

-- no refusal has the number 0
pub number_above : (refusal : Refusal) → number_of refusal ≡ 0 → ⊥
unfolding refusal_of
number_above refusal z =
    let is : refusal ≡ ListEntry = sym (refusal_back refusal) ∙ ap refusal_of z in
    let e : ◌≡◌ {A = ℕ} 16 0 = sym (ap number_of is) ∙ z in
    omega arith

-- the numbers of a table are all the paper's
abbrev pub known : List ℕ → Bool
known [] = true
known (n ∷ numbers) = eqb (number_of (refusal_of n)) n && known numbers

first_known : (table : List Row) → known (numbers_of table) ≡ true → (first_of table ≡ 0 → ⊥) → number_of (refusal_of (first_of table)) ≡ first_of table
unfolding first_of
first_known [] k ne = absurd (ne refl)
first_known (row ∷ rows) k ne = go row.applies refl (first_known rows (right_true (eqb (number_of (refusal_of row.number)) row.number) _ k))
  where
    go : (test : Bool) → row.applies ≡ test → ((first_of rows ≡ 0 → ⊥) → number_of (refusal_of (first_of rows)) ≡ first_of rows)
        → number_of (refusal_of (first_of (row ∷ rows))) ≡ first_of (row ∷ rows)
    go true t behind = rw t (eqb-true (number_of (refusal_of row.number)) row.number (left_true _ (known (numbers_of rows)) k))
    go false t behind = rw t (behind (λ z. ne (rw t z)))

-- an answer that goes by a table has the table's number
pub numbered : {A : Type 0} (table : List Row) (done : A) → known (numbers_of table) ≡ true → number_in (answer_by (first_of table) done) ≡ first_of table
unfolding by
numbered {A} table done k = go (eqb (first_of table) 0) refl
  where
    go : (test : Bool) → eqb (first_of table) 0 ≡ test
        → number_in {A = A} (cond test (Ok done) (Err (refusal_of (first_of table)))) ≡ first_of table
    go true t = sym (eqb-true (first_of table) 0 t)
    go false t = first_known table k (eqb-false (first_of table) 0 t)
