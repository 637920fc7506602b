-- How long a repaired header, and a repaired body, is.
use mathlib.Core.Path.{◌≡◌, refl, ap, ap₂, ◌∙◌}
use Rattle.std.specs.Prelude.{Option, None, Some}
use mathlib.Core.List.{List}
use Prim.Native.Nat.{ℕ, ◌+◌}
use native.Mathlib.Omega.{arith}
use lib.ListN.{length, take, drop, length-append}
use lib.Seq.{length-take-le}
use Rattle.nearest.specs.Near.{near_header, or_own, repaired_header}
use Rattle.nearest.proofs.Nearest.{header_is}
use Rattle.repairing.specs.Body.{repaired_payload, repaired_body}
use Rattle.repairing.proofs.Words.{payload_length}

pub header_length : (header : List ℕ) → length header ≡ 32 → length (repaired_header header) ≡ 32
unfolding repaired_header
header_length header long = go (near_header header) refl
  where
    go : (near : Option (List ℕ)) → near_header header ≡ near → length (or_own (near_header header) header) ≡ 32
    go None e = ap (λ (near : Option (List ℕ)). length (or_own near header)) e ∙ long
    go (Some c) e = ap (λ (near : Option (List ℕ)). length (or_own near header)) e ∙ (header_is header long c e).1

module _ (body : List ℕ) (long : length body ≡ 2072) where
  pub front_length : length (repaired_header (take 32 body)) ≡ 32
  front_length = header_length (take 32 body) (length-take-le 32 body (omega arith))

  pub body_length : length (repaired_body body) ≡ 2072
  unfolding repaired_body
  body_length =
      length-append (repaired_header (take 32 body)) (repaired_payload (drop 32 body))
      ∙ ap₂ (λ (m n : ℕ). m + n) front_length (payload_length (drop 32 body))
