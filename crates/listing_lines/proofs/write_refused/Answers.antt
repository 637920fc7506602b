-- Three words, each behind the one before (`next_word`), are the line (`refused_words`), with room in 96 bytes.
use Rattle.std.proofs.Common.{arith}
use Rattle.listing_lines.specs.Lines.{decimal, ascii}
use Rattle.listing_lines.proofs.Parts.{first_word, next_word, refused_words, whole_line}
use Rattle.listing_lines.proofs.write_refused.Goals as goal

pub returns : goal.returns
returns c =
    let out = c.args.out.now in
    let place = c.write_number-after_place.ensures in
    let refused = c.write_word-after_refused.ensures in
    let number = c.write_number.ensures in
    let word1 = first_word out (decimal c.args.place) 32 _ _ place.out_after place.value.0 in
    let word2 = next_word out (ascii "refused") 32 _ _ _ _ _ word1 (omega arith) refused.out_after refused.value in
    let word3 = next_word out (decimal c.args.number) 10 _ _ _ _ _ word2 (omega arith) number.out_after number.value.0 in
    let line = whole_line out _ _ _ _ word3 (refused_words c.args.place c.args.number) in
    record { value = (line.0, omega arith); out_after = line.1 }
