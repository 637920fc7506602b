-- A header that may be sent is read back from its bytes, whatever the reserved bits in them.
use mathlib.Core.Path.{◌≡◌}
use mathlib.Core.Bool.{true, and-eq-true_iff}
use mathlib.Core.List.{List}
use Prim.Native.Nat.{ℕ, ◌/◌, ◌%◌, ◌<◌}
use native.Mathlib.Omega.{arith}
use borrow.Author.Tests.{ltb-true, lt-ltb}
use Rattle.crc.specs.Crc.{crc_16}
use Rattle.basics.specs.Numbers.{fits_bits, high_first}
use Rattle.refusals.specs.Table.{first_of}
use Rattle.fast_channel.specs.FastChannel.{opcode_of, payload_of, message_fits}
use Rattle.header.specs.Header.{ReservedBits, all_ones, flags_byte, seconds_byte, channel_byte, field_bytes_with, header_bytes, header_bytes_with}
use Rattle.header.specs.Header.{rxfn_rule, fields_fit, header_fits}
use Rattle.header_reading.specs.Reading.{fields_of, header_of, reserved_in, sum_holds, rules_hold, header_table}
use Rattle.fast_channel.specs.declared.FastChannel.{FastChannel}
use Rattle.header.specs.declared.Header.{Header}
use Rattle.basics.proofs.Numbers.{number_of_bytes}
use Rattle.basics.proofs.Tests.{same_self}
use Rattle.fast_channel.proofs.Channel.{message_back, rule_kept, payload_lt, opcode_lt}
use Rattle.header_reading.proofs.Bits.{d4_reserved, d4_ack, d4_valid, d4_kind}

-- what a header that may be sent has, field by field
pub record Sendable (header : Header) : Type 0 where
  pub txfn_lt : header.txfn.0 < 65536
  pub rule : rxfn_rule header.fields.valid header.fields.rxfn.0 ≡ true
  pub rxfn_lt : header.fields.rxfn.0 < 65536
  pub stamp_lt : header.fields.stamp < 1099511627776
  pub seconds_lt : header.fields.seconds < 64
  pub applies_lt : header.fields.applies < 8
  pub message : message_fits header.fields.message ≡ true

pub sendable : (header : Header) → header_fits header ≡ true → Sendable header
unfolding fields_fit
sendable header e =
    let f = header.fields in
    let all = (and-eq-true_iff (fits_bits 16 header.txfn.0) (fields_fit f)).0 e in
    let to-message = (and-eq-true_iff _ (message_fits f.message)).0 all.1 in
    let to-applies = (and-eq-true_iff _ (fits_bits 3 f.applies)).0 to-message.0 in
    let to-seconds = (and-eq-true_iff _ (fits_bits 6 f.seconds)).0 to-applies.0 in
    let to-stamp = (and-eq-true_iff _ (fits_bits 40 f.stamp)).0 to-seconds.0 in
    let to-rxfn = (and-eq-true_iff (rxfn_rule f.valid f.rxfn.0) (fits_bits 16 f.rxfn.0)).0 to-stamp.0 in
    record {
      txfn_lt = ltb-true _ 65536 all.0;
      rule = to-rxfn.0;
      rxfn_lt = ltb-true _ 65536 to-rxfn.1;
      stamp_lt = ltb-true _ 1099511627776 to-stamp.1;
      seconds_lt = ltb-true _ 64 to-seconds.1;
      applies_lt = ltb-true _ 8 to-applies.1;
      message = to-message.1;
    }

pub fits_header : (header : Header) → Sendable header → header_fits header ≡ true
unfolding fields_fit
fits_header header s =
    rw (
      lt-ltb _ 65536 s.txfn_lt,
      s.rule,
      lt-ltb _ 65536 s.rxfn_lt,
      lt-ltb _ 1099511627776 s.stamp_lt,
      lt-ltb _ 64 s.seconds_lt,
      lt-ltb _ 8 s.applies_lt,
    ) s.message

-- d11, of a message that fits
module _ (reserved applies : ℕ) (message : FastChannel) (applies_lt : applies < 8) (fit : message_fits message ≡ true) where
  d11_applies : channel_byte reserved applies message / 16 % 8 ≡ applies
  d11_applies = omega (arith, opcode_lt message fit)

  d11_opcode : channel_byte reserved applies message % 16 ≡ opcode_of message
  d11_opcode = omega (arith, opcode_lt message fit)

d10_seconds : (reserved seconds : ℕ) → seconds < 64 → seconds_byte reserved seconds % 64 ≡ seconds
d10_seconds reserved seconds h = omega arith

module _ (reserved : ReservedBits) (header : Header) (s : Sendable header) where
  abbrev bytes : List ℕ
  bytes = header_bytes_with reserved header

  pub header_back : header_of bytes ≡ header
  unfolding header_of fields_of header_bytes_with field_bytes_with
  header_back =
      let f = header.fields in
      rw (
        number_of_bytes 2 header.txfn.0 s.txfn_lt,
        d4_kind reserved.d4 f.ack f.valid header.kind,
        number_of_bytes 2 f.rxfn.0 s.rxfn_lt,
        d4_ack reserved.d4 f.ack f.valid header.kind,
        d4_valid reserved.d4 f.ack f.valid header.kind,
        number_of_bytes 5 f.stamp s.stamp_lt,
        d10_seconds reserved.d10 f.seconds s.seconds_lt,
        d11_applies reserved.d11 f.applies f.message s.applies_lt s.message,
        d11_opcode reserved.d11 f.applies f.message s.applies_lt s.message,
        number_of_bytes 2 (payload_of f.message) (payload_lt f.message s.message),
        message_back f.message s.message,
      )

  sum_back : sum_holds bytes ≡ true
  unfolding sum_holds header_bytes_with field_bytes_with
  sum_back = same_self (high_first 2 (crc_16 (field_bytes_with reserved header)))

  rules_back : rules_hold bytes ≡ true
  unfolding rules_hold fields_of header_bytes_with field_bytes_with
  rules_back =
      let f = header.fields in
      rw (
        d4_valid reserved.d4 f.ack f.valid header.kind,
        number_of_bytes 2 f.rxfn.0 s.rxfn_lt,
        s.rule,
        d11_opcode reserved.d11 f.applies f.message s.applies_lt s.message,
        number_of_bytes 2 (payload_of f.message) (payload_lt f.message s.message),
      )
      (rule_kept f.message s.message)

  pub none_refused : first_of (header_table bytes) ≡ 0
  unfolding first_of
  none_refused = rw (sum_back, rules_back)

-- what is sent has ones
pub ones_sent : (header : Header) → reserved_in (header_bytes header) ≡ all_ones
unfolding reserved_in header_bytes_with field_bytes_with
ones_sent header =
    let f = header.fields in
    let d4 : flags_byte 15 f.ack f.valid header.kind / 16 ≡ 15 = d4_reserved 15 f.ack f.valid header.kind in
    let d10 : seconds_byte 3 f.seconds / 64 ≡ 3 = omega arith in
    let d11 : channel_byte 1 f.applies f.message / 128 ≡ 1 = omega arith in
    rw (d4, d10, d11)
