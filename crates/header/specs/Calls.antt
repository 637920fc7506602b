-- What code_header does, for all inputs. A refusal's number is 0 where nothing is refused (01, "Refusal numbers").
use Rattle.std.specs.Prelude.{List, [], ◌∷◌, ◌≡◌, ℕ, eqb, length, Result}
use Rattle.refusals.specs.Numbers.{judged_by}
use Rattle.refusals.specs.Table.{Row, ◌unless◌, first_of, by}
use Rattle.refusals.specs.declared.Refusal.{Refusal}
use Rattle.header.specs.Header.{header_bytes, header_fits}
use Rattle.header.specs.declared.Header.{Header}

-- 2: not exactly 16 bytes are lent. 6: a field to send is too large for its bits or against its rule.
abbrev pub code_table : Header → List ℕ → List Row
code_table header lent =
    2 unless eqb (length lent) 16
    ∷ 6 unless header_fits header
    ∷ []

unfoldable pub code_refusal : Header → List ℕ → ℕ
code_refusal header lent = first_of (code_table header lent)

-- the answer, and the lent bytes after the call: a refusal leaves them as they were
pub record CodeHeaderOutcome (header : Header) (before : List ℕ) (r : Result (Unit {0}) Refusal) (after : List ℕ) : Type 0 where
  pub answer : r ≡ judged_by (code_refusal header before)
  pub bytes : after ≡ by (code_refusal header before) (header_bytes header) before
