-- Every p case of paper 01 holds: one proof of the whole table, by computation; the row for all taps cites the scrambler's law. And the rows are about the
-- definitions that the contracts cite, row by row: a row about another function, such as one that gives 36 whatever it is given, is refused.
use mathlib.Core.Path.{◌≡◌, refl, fun_ext}
use mathlib.Core.List.{List, [], ◌∷◌, map, foldr}
use Prim.Native.Nat.{ℕ, ◌+◌}
use lib.Count.{ones}
use Rattle.basics.specs.Lists.{entries}
use Rattle.basics.specs.Numbers.{bits, number}
use Rattle.crc.specs.Crc.{message_bits, crc, crc_16, crc_32}
use Rattle.division.specs.Division.{plus, scale, remainder, check}
use Rattle.division.specs.Doubling.{twice}
use Rattle.field.specs.Field.{double, power}
use Rattle.scrambler.specs.Scrambler.{scrambled, with_key, key_byte, bit, after, next, new_bit, sum_below}
use Rattle.scrambler.proofs.Recurrence.{first_bytes}
use Rattle.header.specs.Header.{all_ones, field_bytes_with}
use Rattle.packing.specs.Filling.{fill_waiting}
use Rattle.sending.specs.Next.{area_for}
use Rattle.fast_channel.specs.Level.{level_of}
use Rattle.frame.specs.Frame.{preamble}
use Rattle.demands.specs.Cases.{Definition, Case, definition, cases, Hold}

pub cases_hold : Hold cases
unfolding cases crc_16 crc_32 crc check remainder plus scale number message_bits bits power double twice ones
    scrambled with_key key_byte entries bit after next new_bit sum_below field_bytes_with fill_waiting
cases_hold =
    (refl, (refl, (refl, (refl, (refl, (refl, (refl, (refl, (fun_ext first_bytes, (refl, (refl, (refl, (refl, (refl, (refl, tt)))))))))))))))

abbrev pub cited : Case → Definition
cited row = row.cited

pub cases_cite : map cited cases ≡
    definition crc_16 ∷ definition crc_32 ∷ definition crc_16 ∷ definition crc_32
    ∷ definition power ∷ definition power ∷ definition power
    ∷ definition {Out = ℕ} (λ (nothing : Unit {0}). foldr (λ byte count. ones byte + count) 0 preamble)
    ∷ definition {Out = ℕ → List ℕ} (λ (bytes : List ℕ) taps. scrambled taps bytes) ∷ definition (scrambled 9) ∷ definition (scrambled 3)
    ∷ definition (field_bytes_with all_ones) ∷ definition (field_bytes_with all_ones) ∷ definition area_for ∷ definition level_of ∷ []
unfolding cases
cases_cite = refl
