-- What is known where read_header refuses nothing, and by what it then goes.
use mathlib.Core.Path.{◌≡◌, refl}
use mathlib.Core.List.{List}
use Prim.Native.Nat.{ℕ}
use native.Mathlib.Omega.{arith}
use borrow.Author.Tests.{eqb-true, eq-eqb, ne_eqb}
use lib.ListN.{length}
use Rattle.std.specs.Prelude.{Err}
use Rattle.refusals.specs.declared.Refusal.TheVariants.{Length}
use Rattle.refusals.specs.Numbers.{refusal_of}
use Rattle.refusals.specs.Table.{first_of, by}
use Rattle.refusals.proofs.Table.{unless_passed}
use Rattle.header_reading.specs.Reading.{header_table, read_refusal, read_header}

pub read_length : (bytes : List ℕ) → read_refusal bytes ≡ 0 → length bytes ≡ 16
unfolding read_refusal
read_length bytes e = eqb-true (length bytes) 16 (unless_passed 2 _ _ (omega arith) e).0

-- bytes of another number are refused with 2
pub read_unsized : (bytes : List ℕ) → (length bytes ≡ 16 → ⊥) → Err Length ≡ read_header bytes
unfolding read_refusal first_of by refusal_of
read_unsized bytes ne = rw (ne_eqb (length bytes) 16 ne) refl

-- 16 bytes are judged by what they hold
pub read_by_content : (bytes : List ℕ) → length bytes ≡ 16 → read_refusal bytes ≡ first_of (header_table bytes)
unfolding read_refusal first_of
read_by_content bytes e = rw (eq-eqb (length bytes) 16 e)
