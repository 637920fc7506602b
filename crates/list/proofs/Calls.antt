-- The answer of `entry`, case by case.
use mathlib.Core.Path.{◌≡◌}
use mathlib.Core.List.{List}
use Prim.Native.Nat.{ℕ, ◌+◌}
use lib.ListN.{length}
use borrow.Author.Tests.{eq-eqb, ne_eqb}
use Rattle.std.specs.Prelude.{Some, None, Ok, Err}
use Rattle.refusals.specs.Numbers.{refusal_of}
use Rattle.refusals.specs.Table.{first_of, by}
use Rattle.refusals.specs.declared.Refusal.TheVariants.{ListEntry}
use Rattle.list.specs.Entries.{length_at, entry_refusal, entry_answer}

-- ---- the answer, case by case
module _ (list : List ℕ) (position : ℕ) where
  pub at_end : position ≡ length list → Ok None ≡ entry_answer list position
  unfolding entry_answer entry_refusal first_of by
  at_end e = rw (eq-eqb position (length list) e)

  module _ (ne : position ≡ length list → ⊥) (n : ℕ) (e : n ≡ length_at list position) where
    pub at_refusal : n ≡ 0 → Err ListEntry ≡ entry_answer list position
    unfolding entry_answer entry_refusal first_of by refusal_of
    at_refusal z = rw (ne_eqb position (length list) ne, ← e, eq-eqb n 0 z)

    pub at_packet : (n ≡ 0 → ⊥)
        → Ok (Some (record { start = position + 2; length = n; next = position + 2 + n })) ≡ entry_answer list position
    unfolding entry_answer entry_refusal first_of by
    at_packet nz = rw (ne_eqb position (length list) ne, ← e, ne_eqb n 0 nz)
