-- Coefficient by coefficient, from the highest: the values are those of the coefficients that are done, which stand behind those that are left.
use Rattle.std.proofs.Common.{◌≡◌, ℕ, [], ◌∷◌, ◌++◌, List, Bor, get_or, sym, ap, ◌∙◌, rules}
use Rattle.std.specs.Int.Bits.{bit_xor}
use Rattle.std.specs.Prelude.{map, reverse}
use Rattle.std.proofs.Math.ListN.{get_or-replicate}
use Rattle.std.proofs.lemmas.List.{append-nil, append_assoc, map_push, nil_from_length, reverse-append}
use Rattle.field.specs.Field.{times}
use Rattle.nearest.specs.Search.{value_at}
use Rattle.nearest.proofs.values.values_at.Goals as goal

-- one more coefficient stands in front of those that are done
done_turn : (yielded : List (Bor ℕ)) (coefficient : Bor ℕ)
    → reverse (map (λ b. b.now) (yielded ++ coefficient ∷ [])) ≡ coefficient.now ∷ reverse (map (λ b. b.now) yielded)
done_turn yielded coefficient =
    ap reverse (map_push (λ b. b.now) yielded coefficient) ∙ reverse-append (map (λ b. b.now) yielded) (coefficient.now ∷ [])

pub loop-coefficient-init : goal.loop-coefficient-init
unfolding value_at
loop-coefficient-init g c = record { left = append-nil _ ∙ search rules; valued = λ k h. get_or-replicate g.row.N k 0 0 h }

pub loop-coefficient-preserved : goal.loop-coefficient-preserved
unfolding value_at
loop-coefficient-preserved g c =
    let loop = c.loop-coefficient in
    let coefficient = c.in-Some.coefficient in
    let left = c.next.new.self.iter.rest.now in
    let done = reverse (map (λ b. b.now) loop.yielded) in
    let turn = done_turn loop.yielded coefficient in
    record {
      left =
          ap (λ l. left ++ l) turn ∙ sym (append_assoc left (coefficient.now ∷ []) done) ∙ ap (λ l. l ++ done) (sym c.in-Some.ensures.steps)
          ∙ loop.invariant.left;
      valued = λ k h.
          let x = get_or c.args.numbers k 0 in
          c.step-values.ensures k h ∙ ap (λ v. bit_xor coefficient.now (times x v)) (loop.invariant.valued k h) ∙ ap (value_at x) (sym turn);
    }

pub returns : goal.returns
returns g c =
    let loop = c.loop-coefficient in
    let none : loop.coefficient-iterator.iter.rest.now ≡ [] = nil_from_length _ c.in-None.ensures.steps.0 in
    let whole = ap (λ l. l ++ reverse (map (λ b. b.now) loop.yielded)) (sym none) ∙ loop.invariant.left in
    λ k h. loop.invariant.valued k h ∙ ap (value_at (get_or c.args.numbers k 0)) whole
