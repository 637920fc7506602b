-- The rows are numbers of eight neighbours (`rows_mapped`); what the registers hold after them is, written as bytes, the parity of each of the eight words
-- (`parity_is`).
use Rattle.std.proofs.Common.{rules, arith, ◌≡◌, ◌∙◌, sym, ap, ◌*◌}
use Rattle.std.proofs.lemmas.Iterator.{YieldsList-from_range, YieldsList-from_map}
use Rattle.basics.specs.Lists.{zeros, entries}
use Rattle.basics.specs.Numbers.{number_at}
use Rattle.basics.proofs.Iterators.{drained}
use Rattle.basics.proofs.Lists.{zeros_length, bytes_each, entries_length}
use Rattle.lent.specs.Written.{written}
use Rattle.lent.specs.Numbers.{bytes_of}
use Rattle.lent.proofs.Written.{written_whole}
use Rattle.reed_solomon.specs.Payload.{parity_byte}
use Rattle.reed_solomon.specs.Rows.{rows}
use Rattle.reed_solomon.proofs.Registers.{registers_of}
use Rattle.reed_solomon.proofs.Rows.{rows_mapped, parity_is}
use Rattle.reed_solomon.proofs.interleaving.parity_bytes.Goals as goal

pub returns : goal.returns
returns c =
    let message = c.args.message.now in
    let fed = c.fed-registers.ensures in
    let parity = entries (parity_byte message) 0 128 in
    let read : fed.0 ≡ rows message =
    drained fed.0 fed.1
    (YieldsList-from_map _ (λ i. number_at (8 * i) 8 message) (YieldsList-from_range 0 239 239 c.map.ensures.source (omega arith)) c.map.ensures.closure (λ x r q k. search rules))
    ∙ rows_mapped message in
    c.write_numbers.ensures ∙ ap (λ l. written (zeros 128) 0 (bytes_of l)) (fed.2 ∙ ap registers_of read)
    ∙ ap (written (zeros 128) 0) (parity_is message (bytes_each message (λ i. omega (arith, c.type_inv.message i))))
    ∙ written_whole (zeros 128) parity (entries_length (parity_byte message) 0 128 ∙ sym (zeros_length 128))
