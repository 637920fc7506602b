-- From the last place down: the places found, and those below at which the values are 0, stay all such places (`places_turn`, `places_skip`). That
-- there is room for one more is `places_room`.
use Rattle.std.proofs.Common.{◌≡◌, ◌++◌, ◌≤◌, length, take}
use Rattle.nearest.specs.Search.{locators}
use Rattle.nearest.proofs.PlaceTurns.{zeros_below}
use Rattle.nearest.proofs.places.places_of.Given as goal

abbrev pub invariant-loop-n : goal.invariant-loop-n
invariant-loop-n l =
    (l.count ≤ 8) × (length l.at ≡ 8) × (length l.numbers ≡ 8)
    × (take l.count l.at ++ zeros_below l.n l.values ≡ zeros_below 255 l.values) × (take l.count l.numbers ≡ locators (take l.count l.at))
