-- 16 bytes that are not refused are those of the header that is read, with the reserved bits that came; and that header may be sent.
use mathlib.Core.Path.{◌≡◌, sym, ap, ap₂, ◌∙◌}
use mathlib.Core.Bool.{true, and-eq-true_iff}
use mathlib.Core.List.{List, ◌++◌}
use Prim.Native.Nat.{ℕ, ◌+◌, ◌*◌, ◌/◌, ◌%◌}
use native.Mathlib.Omega.{arith}
use lib.ListN.{length, get_or, take, drop, take-append-drop}
use Rattle.basics.specs.Lists.{Bytes, entries}
use Rattle.refusals.proofs.Table.{unless_passed}
use Rattle.refusals.specs.Table.{first_of}
use Rattle.crc.specs.Crc.{crc_16}
use Rattle.basics.specs.Numbers.{high_first}
use Rattle.basics.proofs.Lists.{byte, byte_at_lem, entries_front}
use Rattle.basics.proofs.Tests.{same_true}
use Rattle.basics.proofs.Numbers.{bytes_of_number, number_lt}
use Rattle.fast_channel.specs.FastChannel.{message_of, payload_rule}
use Rattle.header.specs.Header.{seconds_byte, field_bytes_with, header_bytes_with, rxfn_rule, header_fits}
use Rattle.header_reading.specs.Reading.{opcode_in, payload_in, fields_of, header_of, reserved_in, sum_holds, rules_hold, header_table}
use Rattle.fast_channel.proofs.Channel.{Carries, message_carries}
use Rattle.header_reading.proofs.Bits.{d4_again}
use Rattle.header_reading.proofs.Sent.{fits_header}

module _ (d : List ℕ) (bytes : Bytes d) (size : length d ≡ 16) (none : first_of (header_table d) ≡ 0) where
  passed : (sum_holds d ≡ true) × (rules_hold d ≡ true)
  passed =
      let first = unless_passed 9 (sum_holds d) _ (omega arith) none in
      (first.0, (unless_passed 11 (rules_hold d) _ (omega arith) first.1).0)

  rules : (rxfn_rule (fields_of d).valid (fields_of d).rxfn.0 ≡ true) × (payload_rule (opcode_in d) (payload_in d) ≡ true)
  unfolding rules_hold
  rules = (and-eq-true_iff _ (payload_rule (opcode_in d) (payload_in d))).0 passed.1

  carries : Carries (opcode_in d) (payload_in d) (message_of (opcode_in d) (payload_in d))
  carries = message_carries (opcode_in d) (payload_in d) (omega arith) (number_lt d bytes 12 2) rules.1

  pub received_fits : header_fits (header_of d) ≡ true
  unfolding header_of fields_of
  received_fits = fits_header (header_of d) record {
    txfn_lt = number_lt d bytes 0 2;
    rule = rules.0;
    rxfn_lt = number_lt d bytes 2 2;
    stamp_lt = number_lt d bytes 5 5;
    seconds_lt = omega arith;
    applies_lt = omega arith;
    message = carries.message_fits_lem;
  }

  d10_again : seconds_byte (reserved_in d).d10 (get_or d 10 0 % 64) ≡ get_or d 10 0
  unfolding reserved_in
  d10_again = omega (arith, byte_at_lem d bytes 10)

  d11_again : 128 * (get_or d 11 0 / 128 % 2) + 16 * (get_or d 11 0 / 16 % 8 % 8) + get_or d 11 0 % 16 % 16 ≡ get_or d 11 0
  d11_again = omega (arith, byte_at_lem d bytes 11)

  fields_again : field_bytes_with (reserved_in d) (header_of d) ≡ entries (byte d) 0 14
  unfolding field_bytes_with reserved_in header_of fields_of entries
  fields_again =
      cc (
        bytes_of_number d bytes 0 2,
        bytes_of_number d bytes 2 2,
        d4_again (get_or d 4 0) (byte_at_lem d bytes 4),
        bytes_of_number d bytes 5 5,
        d10_again,
        carries.opcode_is,
        d11_again,
        carries.payload_is,
        bytes_of_number d bytes 12 2,
      )

  front_again : field_bytes_with (reserved_in d) (header_of d) ≡ take 14 d
  front_again = fields_again ∙ entries_front d 14 (omega arith)

  sum_again : high_first 2 (crc_16 (field_bytes_with (reserved_in d) (header_of d))) ≡ drop 14 d
  unfolding sum_holds
  sum_again = ap (λ (l : List ℕ). high_first 2 (crc_16 l)) front_again ∙ sym (same_true (drop 14 d) (high_first 2 (crc_16 (take 14 d))) passed.0)

  pub header_again : header_bytes_with (reserved_in d) (header_of d) ≡ d
  unfolding header_bytes_with
  header_again = ap₂ (λ (a b : List ℕ). a ++ b) front_again sum_again ∙ take-append-drop 14 d
