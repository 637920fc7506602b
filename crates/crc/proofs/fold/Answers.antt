-- Seven equations, one for each number that is added, end to end (`one_more`); together they leave out the front (`folded`).
use mathlib.Core.Path.{◌≡◌, refl, ◌∙◌}
use lib.ListN.{length, drop}
use Rattle.basics.proofs.Lists.{bytes_each}
use Rattle.crc.specs.Crc.{crc_32}
use Rattle.crc.proofs.Folding.{one_more, folded}
use borrow.Author.Rules.{rules}
use Rattle.crc.proofs.fold.Goals as goal

pub returns : goal.returns
returns c =
    let number = c.number_at-number.result in
    let bytes = c.args.bytes.now in
    let s0 : (length bytes ≡ length bytes) × (crc_32 (drop 8 bytes) ≡ crc_32 (drop 8 bytes)) = (refl, refl) in
    let s1 = one_more 12 number s0 c.add_number.auto.bytes c.add_number.ensures in
    let s2 = one_more 31 number s1 c.add_number-2.auto.bytes c.add_number-2.ensures in
    let s3 = one_more 39 number s2 c.add_number-3.auto.bytes c.add_number-3.ensures in
    let s4 = one_more 59 number s3 c.add_number-4.auto.bytes c.add_number-4.ensures in
    let s5 = one_more 77 number s4 c.add_number-5.auto.bytes c.add_number-5.ensures in
    let s6 = one_more 100 number s5 c.add_number-6.auto.bytes c.add_number-6.ensures in
    let s7 = one_more 123 number s6 c.add_number-7.auto.bytes c.add_number-7.ensures in
    s7.1 ∙ folded bytes (bytes_each bytes (λ i. search rules)) c.requires number c.number_at-number.ensures
