-- Each return is a part of one of the two slices; one that begins at the front stands at the slice's own place (`from_start`).
use borrow.Author.Tests.{le-leb, lt-leb}
use borrow.Rule.Slice.Shared.{by_byte}
use native.Mathlib.Nat.{zero-add}
use mathlib.Core.Path.{◌≡◌, ap, ◌∙◌}
use Prim.Native.Nat.{ℕ}
use mathlib.Core.Bool.{Bool, false, true}
use lib.Dec.{eqb}
use Rattle.std.proofs.Common.{List, Bor, Result, cond, leb, length, take, []}
use Rattle.std.specs.Prelude.{Ok}
use borrow.Author.Rules.{rules}
use Rattle.repairing.specs.Repairing.{shown_bytes, shown_place}
use Rattle.repairing.proofs.shown.Goals as goal

from_start : (place : ℕ × ℕ) → (place.0, by_byte 0 place.1) ≡ place
from_start place = ap (λ n. (place.0, n)) (zero-add place.1)

-- where bytes were wrong, the scratch's first 2,072 or, if it has fewer, none
of_scratch : {E : Type 0} (answer : Result ℕ E) (count : ℕ) (part scratch : Bor (List ℕ)) (enough : Bool) → answer ≡ Ok count → eqb count 0 ≡ false
    → leb 2072 (length scratch.now) ≡ enough
    → record {
      result_value : cond enough (take 2072 scratch.now) [] ≡ shown_bytes answer part.now scratch.now;
      place : (scratch.ref_ptr.0, by_byte 0 scratch.ref_ptr.1) ≡ shown_place answer part scratch;
    }
unfolding shown_bytes shown_place
of_scratch answer count part scratch enough told some fits =
    record { result_value = simp (told, some, fits); place = from_start scratch.ref_ptr ∙ simp (told, some) }

pub returns-in-Ok-eq0 : goal.returns-in-Ok-eq0
unfolding shown_bytes shown_place
returns-in-Ok-eq0 g c =
    let told : c.args.answer ≡ Ok 0 = search rules in
    record { result_value = simp told; place = simp told }

pub returns-then-scratch-lt2072 : goal.returns-then-scratch-lt2072
returns-then-scratch-lt2072 g c =
    of_scratch c.args.answer c.in-Ok.field-0 c.args.part c.args.scratch false c.in-Ok.is (search rules) (lt-leb _ _ c.if-scratch-lt2072.true)

pub returns-else-scratch-lt2072 : goal.returns-else-scratch-lt2072
returns-else-scratch-lt2072 g c =
    of_scratch c.args.answer c.in-Ok.field-0 c.args.part c.args.scratch true c.in-Ok.is (search rules) (le-leb _ _ c.if-scratch-lt2072.false)

pub returns-in-Err : goal.returns-in-Err
unfolding shown_bytes shown_place
returns-in-Err g c =
    let told = c.in-Err.is in
    record { result_value = simp told; place = from_start c.args.part.ref_ptr ∙ simp told }
