-- Row by row: the rows put out, and the pass of the carried row over those that are left, stay the rows that are cut (`turn_kept`, `turn_mixed`).
use mathlib.Core.Path.{◌≡◌, sym, ap, ap₂, ◌∙◌}
use mathlib.Core.List.{List, [], ◌++◌}
use Prim.Native.Nat.{ℕ, ◌+◌, ◌-◌, ◌≤◌, ◌<◌}
use native.Mathlib.Omega.{arith}
use lib.ListN.{length, get_or, take, drop, length-set}
use Rattle.basics.proofs.Lists.{cut_rest_lem}
use Rattle.nearest.specs.Search.{dot, pass}
use Rattle.nearest.proofs.LocatingTurns.{cut_end, cut_start, turn_kept, turn_mixed}
use borrow.Author.Rules.{rules}
use Rattle.nearest.proofs.locating.cut_rows.Goals as goal
use Rattle.nearest.proofs.locating.cut_rows.Goals.{then-x-eq0, else-x-eq0}

-- the sums from an index on
later : (sums : List ℕ) (from : ℕ) → length sums ≡ 16 → take (16 - from) (drop from sums) ≡ drop from sums
later sums from long = ap (λ n. take (n - from) (drop from sums)) (sym long) ∙ cut_rest_lem sums from

pub loop-i-init : goal.loop-i-init
loop-i-init c =
    let given = c in
    let args = given.args in
    let start = cut_start (drop args.from args.sums) args.rows args.rows (9 - args.from) (omega (arith, given.requires)) (search rules) in
    (search rules, search rules, search rules, search rules, c.dot_of-x.ensures ∙ ap (dot (get_or args.rows 0 [])) (later args.sums args.from (search rules)), start)

pub loop-i-preserved : goal.loop-i-preserved
loop-i-preserved c =
    let loop = c.loop-i in
    let args = c.args in
    let S = drop args.from args.sums in
    let m = 9 - args.from in
    let rows = args.rows in
    let after : List (List ℕ) → List ℕ → List (List ℕ) =
    λ out carried. take (loop.i + 1) out ++ pass S carried (drop (loop.i + 1 + 1) (take m rows)) in
    let y = c.dot_of-y.ensures ∙ ap (dot (get_or rows (loop.i + 1) [])) (later args.sums args.from (search rules)) in
    let more : loop.i + 1 < m = omega arith in
    let fits : m ≤ length rows = omega (arith, loop.invariant.2, loop.invariant.1) in
    let room : loop.i < length loop.out = omega (arith, loop.invariant.3, loop.invariant.0) in
    elim c.if-x-eq0.branch [
      | then-x-eq0 w ↦ (
        search rules,
        search rules,
        search rules,
        ap length w.out-is ∙ length-set loop.out loop.i _ ∙ loop.invariant.3,
        w.x-is ∙ y ∙ ap (λ r. dot r S) (sym w.carried-is),
        ap₂ after w.out-is w.carried-is
            ∙ turn_kept S rows loop.out m loop.i loop.carried more fits room (sym loop.invariant.4 ∙ w.if-x-eq0.true) ∙ loop.invariant.5,
      )
      | else-x-eq0 w ↦ (
        search rules,
        search rules,
        search rules,
        ap length w.out-is ∙ length-set loop.out loop.i _ ∙ loop.invariant.3,
        w.x-is ∙ loop.invariant.4 ∙ ap (λ r. dot r S) (sym w.carried-is),
        ap₂ after w.out-is w.carried-is
            ∙ turn_mixed S rows loop.out m loop.i _ _ loop.carried _ more fits room loop.invariant.4 y w.if-x-eq0.false w.mix_rows.ensures
            ∙ loop.invariant.5,
      )
    ]

pub returns : goal.returns
returns c =
    let loop = c.loop-i in
    let args = c.args in
    let end : 8 - args.from ≡ loop.i = omega arith in
    ap (λ n. take n loop.out) end
    ∙ cut_end (drop args.from args.sums) args.rows loop.out (9 - args.from) loop.i loop.carried _ (omega arith) loop.invariant.5
