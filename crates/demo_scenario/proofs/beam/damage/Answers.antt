use Rattle.std.proofs.Common.{arith, ◌≡◌, ℕ, ◌∙◌, suc, ◌+◌, ◌-◌, ◌*◌, ◌<◌, List, get_or, set}
use Rattle.demo_scenario.specs.Beam.{turned_from}
use Rattle.demo_scenario.proofs.beam.damage.Goals as goal

-- one step of the definition, for a count that is not 0
turned-step : (first apart at count : ℕ) (bytes : List ℕ) → at < count
    → turned_from (first + apart * (at + 1)) apart (count - (at + 1)) (set bytes (first + apart * at) (255 - get_or bytes (first + apart * at) 0))
    ≡ turned_from (first + apart * at) apart (count - at) bytes
unfolding turned_from
turned-step first apart at count bytes h =
    let more : count - at ≡ suc (count - (at + 1)) = omega arith in
    let next : first + apart * (at + 1) ≡ first + apart * at + apart = omega arith in
    rw (more, next)

pub loop-wrong-preserved : goal.loop-wrong-preserved
loop-wrong-preserved c = turned-step _ _ _ _ _ (omega arith) ∙ c.loop-wrong.invariant

pub returns : goal.returns
unfolding turned_from
returns c =
    let done : c.wrong_in-wrong-end.result - c.loop-wrong.wrong ≡ 0 = omega arith in
    rw (← c.hit_of-hit.ensures.value, ← c.wrong_in-wrong-end.ensures.value) (rw done at c.loop-wrong.invariant)
