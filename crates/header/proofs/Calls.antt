-- What is known where code_header refuses nothing.
use mathlib.Core.Path.{◌≡◌}
use mathlib.Core.List.{List}
use Prim.Native.Nat.{ℕ}
use native.Mathlib.Omega.{arith}
use borrow.Author.Tests.{eqb-true}
use lib.ListN.{length}
use Rattle.refusals.proofs.Table.{unless_passed}
use Rattle.header.specs.Calls.{code_refusal}
use Rattle.header.specs.declared.Header.{Header}

pub code_length : (header : Header) (lent : List ℕ) → code_refusal header lent ≡ 0 → length lent ≡ 16
unfolding code_refusal
code_length header lent e = eqb-true (length lent) 16 (unless_passed 2 _ _ (omega arith) e).0
