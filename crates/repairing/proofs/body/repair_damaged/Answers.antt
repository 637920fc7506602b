-- The header, then the words are repaired (`put_together`); the bytes that differ from the copy are at most 72 (`body_few`).
use Rattle.std.proofs.Common.{sym, ap, ◌∙◌, rules, arith}
use Rattle.basics.specs.Lists.{entries}
use Rattle.reed_solomon.specs.Rows.{remainder_byte}
use Rattle.nearest.specs.Near.{differences}
use Rattle.repairing.specs.Body.{words_near}
use Rattle.repairing.proofs.Columns.{body_few}
use Rattle.repairing.proofs.Parts.{payload_kept, put_together}
use Rattle.repairing.proofs.body.repair_damaged.Goals as goal

pub repair_words-words_near-requires : goal.repair_words-words_near-requires
repair_words-words_near-requires c =
    let body = c.args.body.now in
    let over = c.repair_header-header_near in
    let kept = payload_kept body over.new.body (search rules) (search rules) over.ensures.1 in
    (search rules, c.requires.1 ∙ ap (λ l. entries (remainder_byte l) 0 128) (sym kept))

pub overflow_cast-result : goal.overflow_cast-result
overflow_cast-result c =
    let body = c.args.body.now in
    let over = c.repair_header-header_near in
    let words = c.repair_words-words_near in
    let together = put_together body over.new.body (search rules) (search rules) over.ensures.1 words.new.payload words.ensures.1 in
    omega (arith, c.count_differences-wrong.ensures ∙ ap (differences body) together, body_few body (search rules))

pub returns : goal.returns
returns c =
    let body = c.args.body.now in
    let over = c.repair_header-header_near in
    let words = c.repair_words-words_near in
    let together = put_together body over.new.body (search rules) (search rules) over.ensures.1 words.new.payload words.ensures.1 in
    let kept = payload_kept body over.new.body (search rules) (search rules) over.ensures.1 in
    record {
      header = over.ensures.0;
      words = words.ensures.0 ∙ ap words_near kept;
      count = c.count_differences-wrong.ensures ∙ ap (differences body) together;
      bytes = together;
    }
