-- The coded header is 16 bytes, whatever its fields and its reserved bits.
use mathlib.Core.Path.{◌≡◌, refl}
use mathlib.Core.Bool.{Bool, true, false}
use mathlib.Core.List.{◌∷◌, ◌++◌}
use Prim.Native.Nat.{ℕ, ◌≤◌, ◌<◌}
use native.Mathlib.Omega.{arith}
use lib.ListN.{length}
use Rattle.basics.specs.Lists.{Bytes}
use Rattle.basics.specs.Numbers.{low_first, high_first}
use Rattle.basics.proofs.Lists.{bytes_append}
use Rattle.basics.proofs.Numbers.{low_first_bytes, high_first_bytes}
use Rattle.crc.specs.Crc.{crc_16}
use Rattle.fast_channel.specs.FastChannel.{payload_of}
use Rattle.header.specs.Header.{flag_bit, kind_number, ReservedBits, flags_byte, seconds_byte, channel_byte, field_bytes_with, header_bytes_with}
use Rattle.header.specs.declared.FrameKind.{FrameKind}
use Rattle.header.specs.declared.FrameKind.TheVariants.{Idle, Data, Type2, Type3}
use Rattle.header.specs.declared.Header.{Header}

pub bit_le : (flag : Bool) → flag_bit flag ≤ 1
bit_le true = omega arith
bit_le false = omega arith

pub kind_le : (kind : FrameKind) → kind_number kind ≤ 3
kind_le Idle = omega arith
kind_le Data = omega arith
kind_le Type2 = omega arith
kind_le Type3 = omega arith

flags_byte_lem : (reserved : ℕ) (ack valid : Bool) (kind : FrameKind) → flags_byte reserved ack valid kind < 256
flags_byte_lem reserved ack valid kind = omega (arith, bit_le ack, bit_le valid, kind_le kind)

module _ (reserved : ReservedBits) (header : Header) where
  pub fields_length : length (field_bytes_with reserved header) ≡ 14
  unfolding field_bytes_with
  fields_length = refl

  pub header_length : length (header_bytes_with reserved header) ≡ 16
  unfolding header_bytes_with field_bytes_with
  header_length = refl

  fields_bytes : Bytes (field_bytes_with reserved header)
  unfolding field_bytes_with
  fields_bytes =
      let fields = header.fields in
      let message = payload_of fields.message in
      let behind = seconds_byte reserved.d10 fields.seconds ∷ channel_byte reserved.d11 fields.applies fields.message ∷ low_first 2 message in
      let later = flags_byte reserved.d4 fields.ack fields.valid header.kind ∷ low_first 5 fields.stamp ++ behind in
      bytes_append (low_first 2 header.txfn.0) (low_first 2 fields.rxfn.0 ++ later) (low_first_bytes 2 header.txfn.0)
      (bytes_append (low_first 2 fields.rxfn.0) later (low_first_bytes 2 fields.rxfn.0) (
        flags_byte_lem reserved.d4 fields.ack fields.valid header.kind,
        bytes_append (low_first 5 fields.stamp) behind (low_first_bytes 5 fields.stamp) (omega arith, (omega arith, low_first_bytes 2 message)),
      ))

  pub header_bytes_lem : Bytes (header_bytes_with reserved header)
  unfolding header_bytes_with
  header_bytes_lem =
      let fields = field_bytes_with reserved header in
      bytes_append fields (high_first 2 (crc_16 fields)) fields_bytes (high_first_bytes 2 (crc_16 fields))
