-- The rows are the bytes of the message (`drained`), and the lowest bytes of what the registers hold are the parity of the first word (`registers_bytes`).
use Rattle.std.proofs.Common.{rules, arith, ◌≡◌, ◌∙◌, sym, ap, length, get_or, ◌%◌}
use Rattle.std.proofs.lemmas.List.{map-id, length-map}
use Rattle.std.proofs.lemmas.Iterator.{YieldsList-from_slice, YieldsList-from_map}
use Rattle.basics.proofs.Fill.{filled_all}
use Rattle.basics.proofs.Iterators.{drained}
use Rattle.basics.proofs.Lists.{bytes_each}
use Rattle.basics.proofs.Numbers.{byte_at}
use Rattle.reed_solomon.proofs.Registers.{word_in, word_at, registers_of, registers_length, registers_bytes}
use Rattle.reed_solomon.proofs.parity_of.Goals as goal

pub returns : goal.returns
returns c =
    let message = c.args.message.now in
    let registers = c.fed-registers.result in
    let fed = c.fed-registers.ensures in
    let bytes = c.map-2.ensures.items in
    let rows : fed.0 ≡ message =
    drained fed.0 fed.1 (YieldsList-from_map _ (λ x. x) (YieldsList-from_slice message (cc)) (cc) (λ x r q k. search rules)) ∙ map-id message in
    let held : registers ≡ registers_of message = fed.2 ∙ ap registers_of rows in
    let size : length (word_in 0 registers) ≡ 16 = length-map registers (byte_at 0) ∙ ap length held ∙ registers_length message in
    filled_all (word_in 0 registers) c.map-2.result 16
    (λ k h.
    let called = (bytes.at k 0 0 h).2 in
    let low : get_or c.map-2.result k 0 ≡ get_or registers k 0 % 256 = search rules in
    low ∙ sym (word_at 0 registers k))
    bytes.long size
    ∙ ap (word_in 0) held ∙ registers_bytes message (bytes_each message (λ i. omega (arith, c.type_inv.message i)))
