-- Five words, each behind the one before (`next_word`), are the line (`accepted_words`); the bounds on the words' lengths leave room for all in 96 bytes.
use Rattle.std.proofs.Common.{arith}
use Rattle.listing_lines.specs.Lines.{accepted_line}
use Rattle.listing_lines.proofs.Parts.{first_word, next_word, accepted_words, whole_line}
use Rattle.listing_lines.proofs.write_accepted.Goals as goal

pub returns : goal.returns
returns c =
    let out = c.args.out.now in
    let place = c.write_number-after_place.ensures in
    let txfn = c.write_number-after_txfn.ensures in
    let kind = c.write_word-after_kind.ensures in
    let missed = c.write_number-after_missed.ensures in
    let packets = c.write_number.ensures in
    let word1 = first_word out _ 32 _ _ place.out_after place.value.0 in
    let word2 = next_word out _ 32 _ _ _ _ _ word1 (omega arith) txfn.out_after txfn.value.0 in
    let word3 = next_word out _ 32 _ _ _ _ _ word2 (omega arith) kind.out_after kind.value in
    let word4 = next_word out _ 32 _ _ _ _ _ word3 (omega arith) missed.out_after missed.value.0 in
    let word5 = next_word out _ 10 _ _ _ _ _ word4 (omega arith) packets.out_after packets.value.0 in
    let line = accepted_line c.args.place c.args.txfn c.args.kind c.args.missed c.args.packets in
    let words = accepted_words c.args.place c.args.txfn c.args.kind c.args.missed c.args.packets in
    let whole = whole_line out _ line _ _ word5 (rw c.word_of.ensures.word words) in
    record { value = (whole.0, omega arith); out_after = whole.1 }
