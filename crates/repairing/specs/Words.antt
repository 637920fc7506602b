-- What the code does to the words of a payload, one after the other, and how it answers for a body. Contracts of functions below the calls cite it; `Body` says
-- what a repaired body is.
use Rattle.std.specs.Prelude.{◌≡◌, List, ℕ, take, drop, is_some}
use Rattle.reed_solomon.specs.Payload.{every_eighth}
use Rattle.reed_solomon.specs.Rows.{spread}
use Rattle.nearest.specs.Near.{near_header, repaired_word, differences}
use Rattle.repairing.specs.Body.{words_near, repaired_body}
use Rattle.repairing.specs.declared.body.BodyAnswer.{BodyAnswer}

-- word k of a payload repaired where it stands
unfoldable pub with_word : ℕ → List ℕ → List ℕ
with_word k payload = spread (repaired_word (every_eighth 255 k payload)) k payload

-- what is near, how many bytes differ, and the body after it: repaired as far as something is near
pub record BodyOutcome (before : List ℕ) (r : BodyAnswer) (after : List ℕ) : Type 0 where
  pub header : r.header ≡ is_some (near_header (take 32 before))
  pub words : r.words ≡ words_near (drop 32 before)
  pub count : r.wrong ≡ differences before (repaired_body before)
  pub bytes : after ≡ repaired_body before
