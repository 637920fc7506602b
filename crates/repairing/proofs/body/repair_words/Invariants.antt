-- Word by word: those before k are repaired (`with_words`), and `all` tells whether a codeword is near each of them.
use Rattle.std.specs.Prelude.{◌≡◌, is_some}
use Rattle.basics.specs.Lists.{all_below}
use Rattle.reed_solomon.specs.Payload.{every_eighth}
use Rattle.nearest.specs.Near.{near_word}
use Rattle.repairing.proofs.Words.{with_words}
use Rattle.repairing.proofs.body.repair_words.Given as goal

abbrev pub invariant-loop-k : goal.invariant-loop-k
invariant-loop-k l =
    let payload = l.initial.payload in
    (l.payload ≡ with_words l.k payload) × (l.all ≡ all_below l.k (λ k. is_some (near_word (every_eighth 255 k payload))))
