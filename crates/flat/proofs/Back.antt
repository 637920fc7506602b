-- What C was answered comes back as it went: a header that may be sent, and every receiver. So what taqwelim_open answered is what taqwelim_apply applies.
use mathlib.Core.Path.{◌≡◌, refl}
use mathlib.Core.Bool.{Bool, true, ◌&&◌}
use Prim.Native.Nat.{ℕ, ◌%◌, ◌≤◌, ◌<◌}
use native.Mathlib.Omega.{arith}
use lib.Dec.{leb, ltb}
use Rattle.std.specs.Prelude.{Option, Some, None}
use borrow.Author.Tests.{ltb-true, leb-true, le-leb, ne_eqb}
use Rattle.basics.specs.Numbers.{fits_bits}
use Rattle.basics.proofs.Tests.{left_true, right_true, both_true}
use Rattle.fast_channel.specs.FastChannel.{lock_number, message_fits}
use Rattle.fast_channel.specs.declared.FastChannel.{FastChannel}
use Rattle.fast_channel.specs.declared.FastChannel.TheVariants.{CrcErrors, ReceivedPower, PowerStatistics, SyncLosses, PowerRange}
use Rattle.fast_channel.specs.declared.FastChannel.TheVariants.{Version, CorrectedFrames, Reserved, Absent}
use Rattle.fast_channel.specs.declared.Lock.{Lock}
use Rattle.fast_channel.specs.declared.Lock.TheVariants.{NotLocked, Locked}
use Rattle.fast_channel.proofs.Channel.{lock_back}
use Rattle.header.specs.Header.{flag_bit, kind_number, header_fits}
use Rattle.header.specs.declared.Header.{Header}
use Rattle.header.proofs.Bytes.{bit_le, kind_le}
use Rattle.header_reading.proofs.Bits.{bit_back, kind_back}
use Rattle.header_reading.proofs.Sent.{sendable}
use Rattle.counts.specs.declared.Txfn.{Txfn}
use Rattle.receiver.specs.declared.Receiver.{Receiver}
use Rattle.flat.specs.Messages.{flat_message, first_most, second_most, third_most, numbers_fit, message_of}
use Rattle.flat.specs.Headers.{flags_fit, sent_message, fields_where, header_of, flat_header}
use Rattle.flat.specs.States.{is_receiver, held_of, receiver_of, flat_receiver}

-- ---- a message that may be sent: its numbers fit, and stand for it

lock_le : (lock : Lock) → lock_number lock ≤ 1
lock_le NotLocked = omega arith
lock_le Locked = omega arith

zero_fits : (most : ℕ) → leb 0 most ≡ true
zero_fits most = le-leb 0 most (omega arith)

below : (bound n : ℕ) → ltb n bound ≡ true → n < bound
below bound n e = ltb-true n bound e

numbers_fit_lem : (message : FastChannel) → message_fits message ≡ true → numbers_fit (flat_message message) ≡ true
unfolding numbers_fit first_most second_most third_most
numbers_fit_lem (CrcErrors errors) e = rw (le-leb errors 65535 (omega (arith, below 65536 errors e)))
numbers_fit_lem (ReceivedPower power lock) e = rw (le-leb power 16383 (omega (arith, below 16384 power e)), le-leb (lock_number lock) 1 (lock_le lock))
numbers_fit_lem (PowerStatistics mean deviation) e = rw (
  le-leb mean 255 (omega (arith, below 256 mean (left_true _ _ e))),
  le-leb deviation 255 (omega (arith, below 256 deviation (right_true (fits_bits 8 mean) _ e))),
)
numbers_fit_lem (SyncLosses losses lock) e = rw (le-leb losses 16383 (omega (arith, below 16384 losses e)), le-leb (lock_number lock) 1 (lock_le lock))
numbers_fit_lem (PowerRange least greatest) e = rw (
  le-leb least 255 (omega (arith, below 256 least (left_true _ _ e))),
  le-leb greatest 255 (omega (arith, below 256 greatest (right_true (fits_bits 8 least) _ e))),
)
numbers_fit_lem (Version major minor patch) e =
    let two = left_true (fits_bits 5 major && fits_bits 5 minor) (fits_bits 6 patch) e in rw (
      le-leb major 31 (omega (arith, below 32 major (left_true _ _ two))),
      le-leb minor 31 (omega (arith, below 32 minor (right_true (fits_bits 5 major) _ two))),
      le-leb patch 63 (omega (arith, below 64 patch (right_true (fits_bits 5 major && fits_bits 5 minor) _ e))),
    )
numbers_fit_lem (CorrectedFrames frames) e = rw (le-leb frames 65535 (omega (arith, below 65536 frames e)))
numbers_fit_lem (Reserved opcode) e =
    let known = le-leb opcode 15 (omega (arith, leb-true opcode 14 (right_true (leb 7 opcode) _ e))) in
    both_true _ _ (both_true _ _ (both_true _ _ known (zero_fits (first_most opcode))) (zero_fits (second_most opcode))) (zero_fits (third_most opcode))
numbers_fit_lem Absent e = refl

-- a number of one byte is not cut off
small : (bound n : ℕ) → bound ≤ 256 → ltb n bound ≡ true → n % 256 ≡ n
small bound n few e = omega (arith, below bound n e)

message_again : (message : FastChannel) → message_fits message ≡ true → message_of (flat_message message) ≡ message
unfolding message_of
message_again (CrcErrors errors) e = refl
message_again (ReceivedPower power lock) e = rw (lock_back lock)
message_again (PowerStatistics mean deviation) e =
    rw (small 256 mean (omega arith) (left_true _ _ e), small 256 deviation (omega arith) (right_true (fits_bits 8 mean) _ e))
message_again (SyncLosses losses lock) e = rw (lock_back lock)
message_again (PowerRange least greatest) e =
    rw (small 256 least (omega arith) (left_true _ _ e), small 256 greatest (omega arith) (right_true (fits_bits 8 least) _ e))
message_again (Version major minor patch) e =
    let two = left_true (fits_bits 5 major && fits_bits 5 minor) (fits_bits 6 patch) e in rw (
      small 32 major (omega arith) (left_true _ _ two),
      small 32 minor (omega arith) (right_true (fits_bits 5 major) _ two),
      small 64 patch (omega arith) (right_true (fits_bits 5 major && fits_bits 5 minor) _ e),
    )
message_again (CorrectedFrames frames) e = refl
message_again (Reserved opcode) e =
    let low = leb-true 7 opcode (left_true _ _ e) in
    let high = leb-true opcode 14 (right_true (leb 7 opcode) _ e) in rw (
      ne_eqb opcode 0 (λ z. omega arith),
      ne_eqb opcode 1 (λ z. omega arith),
      ne_eqb opcode 2 (λ z. omega arith),
      ne_eqb opcode 3 (λ z. omega arith),
      ne_eqb opcode 4 (λ z. omega arith),
      ne_eqb opcode 5 (λ z. omega arith),
      ne_eqb opcode 6 (λ z. omega arith),
      ne_eqb opcode 15 (λ z. omega arith),
    )
message_again Absent e = refl

-- ---- a header that may be sent

flag_fits : (flag : Bool) → leb (flag_bit flag) 1 ≡ true
flag_fits flag = le-leb (flag_bit flag) 1 (bit_le flag)

pub header_through_c : (header : Header) → header_fits header ≡ true → header_of (flat_header header) ≡ header
unfolding flags_fit sent_message fields_where
header_through_c header e =
    let fields = header.fields in
    let fit = (sendable header e).message in rw (
      le-leb (kind_number header.kind) 3 (kind_le header.kind),
      kind_back header.kind,
      flag_fits fields.ack,
      flag_fits fields.valid,
      bit_back fields.ack,
      bit_back fields.valid,
      numbers_fit_lem fields.message fit,
      message_again fields.message fit,
    )

-- ---- every receiver

pub receiver_through_c : (receiver : Receiver) → receiver_of (flat_receiver receiver) ≡ receiver
unfolding is_receiver held_of
receiver_through_c receiver = go receiver.expected receiver.held
  where
    go : (expected : Option Txfn) (held : ℕ) → receiver_of (flat_receiver (record { expected = expected; held = held })) ≡ record { expected = expected; held = held }
    go None held = refl
    go (Some txfn) held = refl
