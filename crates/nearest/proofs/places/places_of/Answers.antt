-- From the last place down: the places found, and those below at which the values are 0, stay all such places (`places_turn`, `places_skip`). That
-- there is room for one more is `places_room`.
use Rattle.std.proofs.Common.{◌≡◌, ℕ, ◌-◌, ◌≤◌, ◌<◌, List, length, get_or, sym, ap, ◌∙◌, subst, rules, arith}
use Rattle.field.specs.Field.{times}
use Rattle.field.specs.Raised.{raised}
use Rattle.nearest.specs.Search.{places, value_at}
use Rattle.nearest.proofs.PlaceTurns.{numbers_turn, places_end, places_room, places_skip, places_turn, zeros_places, zeros_below}
use Rattle.nearest.proofs.SumTurns.{place_number}
use Rattle.nearest.proofs.places.places_of.Goals as goal
use Rattle.nearest.proofs.places.places_of.Goals.{Then-values-n-eq0}

module _ (all values polynomial : List ℕ) (numbered : (i : ℕ) → i < 256 → get_or all i 0 ≡ times 1 (raised 173 i))
    (valued : (i : ℕ) → i < 256 → get_or values i 0 ≡ value_at (get_or all i 0) polynomial) where
  -- the places where the values are 0 are those where the polynomial is
  found : zeros_below 255 values ≡ places 255 polynomial
  found =
      zeros_places 255 values polynomial
      (λ k h. valued k (omega arith) ∙ ap (λ y. value_at y polynomial) (numbered k (omega arith) ∙ place_number k))

  few : length (places 255 polynomial) ≤ 8 → length (zeros_below 255 values) ≤ 8
  few room = subst (λ l. length l ≤ 8) (sym found) room

-- at a place where the value is 0 there is room for one more
room : (c : Then-values-n-eq0) → c.loop-n.count < 8
room c =
    let loop = c.loop-n in
    let values = c.values_at-values in
    places_room loop.at values.result loop.count loop.n loop.invariant.1 loop.invariant.0
    (few c.progression-all.result values.result c.args.polynomial c.progression-all.ensures values.ensures c.requires) loop.invariant.3
    c.if-values-n-eq0.true (omega arith)

pub bounds-at-count : goal.bounds-at-count
bounds-at-count c = room c

pub bounds-numbers-count : goal.bounds-numbers-count
bounds-numbers-count c = room c

pub loop-n-preserved-then-values-n-eq0 : goal.loop-n-preserved-then-values-n-eq0
loop-n-preserved-then-values-n-eq0 c =
    let loop = c.loop-n in
    let all = c.progression-all in
    let values = c.values_at-values in
    let less = room c in (
      omega (arith, less),
      search rules,
      search rules,
      places_turn loop.at (zeros_below 255 values.result) values.result loop.count loop.n (omega arith) (omega (arith, less)) loop.invariant.3
          c.if-values-n-eq0.true,
      numbers_turn loop.at loop.numbers loop.count (loop.n - 1) _ (omega (arith, less)) (omega (arith, less))
          (all.ensures (loop.n - 1) (omega arith) ∙ place_number (loop.n - 1)) loop.invariant.4,
    )

pub loop-n-preserved : goal.loop-n-preserved
loop-n-preserved c =
    let loop = c.loop-n in
    let values = c.values_at-values.result in (
      loop.invariant.0,
      loop.invariant.1,
      loop.invariant.2,
      places_skip loop.at (zeros_below 255 values) values loop.count loop.n (omega arith) loop.invariant.3 c.if-values-n-eq0.false,
      loop.invariant.4,
    )

pub returns : goal.returns
returns c =
    let loop = c.loop-n in
    let values = c.values_at-values in
    places_end loop.at (zeros_below 255 values.result) values.result loop.count loop.n (omega arith) loop.invariant.3
    ∙ found c.progression-all.result values.result c.args.polynomial c.progression-all.ensures values.ensures
