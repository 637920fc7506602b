-- Word by word: those before k are repaired (`with_words`), and the others are as they were, so that what division left of them is still theirs (`word_kept`).
use Rattle.std.specs.Prelude.{is_some}
use native.Mathlib.Omega.{arith}
use mathlib.Core.Path.{◌≡◌, refl, sym, ap, ◌∙◌}
use mathlib.Core.Bool.{Bool}
use Prim.Native.Nat.{ℕ, ◌<◌}
use lib.ListN.{length}
use Rattle.basics.specs.Lists.{all_below}
use Rattle.reed_solomon.specs.Code.{remainder_of}
use Rattle.reed_solomon.specs.Payload.{every_eighth}
use Rattle.reed_solomon.proofs.Remainders.{remainder_of_word}
use Rattle.nearest.specs.Near.{near_word}
use Rattle.repairing.specs.Body.{words_near}
use Rattle.repairing.specs.Words.{with_word}
use Rattle.repairing.proofs.Words.{with_words, words_none, words_more, words_length, word_kept, all_words, all_more}
use Rattle.repairing.proofs.body.repair_words.Goals as goal

pub loop-k-init : goal.loop-k-init
loop-k-init c = (sym (words_none c.args.payload.now), refl)

pub repair_word-all-requires : goal.repair_word-all-requires
repair_word-all-requires c =
    let loop = c.loop-k in
    let payload = c.args.payload.now in
    let low : loop.k < 8 = omega arith in (
      low,
      ap length loop.invariant.0 ∙ words_length loop.k payload ∙ c.requires.0,
      c.gathered-remainder.ensures ∙ ap (every_eighth 16 loop.k) c.requires.1 ∙ remainder_of_word payload loop.k low
          ∙ sym (ap (λ l. remainder_of (every_eighth 255 loop.k l)) loop.invariant.0 ∙ ap remainder_of (word_kept loop.k payload low)),
    )

pub loop-k-preserved : goal.loop-k-preserved
loop-k-preserved c =
    let loop = c.loop-k in
    let payload = c.args.payload.now in
    let repaired = c.repair_word-all in
    let near : ℕ → Bool = λ k. is_some (near_word (every_eighth 255 k payload)) in
    let low : loop.k < 8 = omega arith in
    let found : repaired.result ≡ near loop.k =
    repaired.ensures.0 ∙ ap (λ l. is_some (near_word (every_eighth 255 loop.k l))) loop.invariant.0
    ∙ ap (λ w. is_some (near_word w)) (word_kept loop.k payload low) in (
      repaired.ensures.1 ∙ ap (with_word loop.k) loop.invariant.0 ∙ words_more loop.k payload,
      all_more near loop.k repaired.result loop.all found loop.invariant.1,
    )

pub returns : goal.returns
unfolding words_near
returns c =
    let loop = c.loop-k in
    let payload = c.args.payload.now in
    let all : loop.k ≡ 8 = omega arith in (
      loop.invariant.1 ∙ ap (λ n. all_below n (λ k. is_some (near_word (every_eighth 255 k payload)))) all,
      loop.invariant.0 ∙ ap (λ n. with_words n payload) all ∙ all_words payload c.requires.0,
    )
