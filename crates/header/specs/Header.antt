-- The 16 bytes of a header, d0 to d15 (Tables 2-9 and 2-10; 01, "The frame on the wire"), with reserved bits of any value and as they are sent; and which
-- header may be sent in them.
use Rattle.std.specs.Prelude.{Bool, cond, ◌&&◌, ◌||◌, List, [], ◌∷◌, ◌++◌, ℕ, ◌+◌, ◌*◌, ◌%◌, eqb}
use Rattle.crc.specs.Crc.{crc_16}
use Rattle.basics.specs.Numbers.{fits_bits, low_first, high_first}
use Rattle.fast_channel.specs.FastChannel.{opcode_of, payload_of, message_fits}
use Rattle.header.specs.declared.FrameKind.{FrameKind}
use Rattle.header.specs.declared.FrameKind.TheVariants.{Idle, Data, Type2, Type3}
use Rattle.fast_channel.specs.declared.FastChannel.{FastChannel}
use Rattle.header.specs.declared.Fields.{Fields}
use Rattle.header.specs.declared.Header.{Header}

abbrev pub flag_bit : Bool → ℕ
flag_bit flag = cond flag 1 0

abbrev pub kind_number : FrameKind → ℕ
kind_number Idle = 0
kind_number Data = 1
kind_number Type2 = 2
kind_number Type3 = 3

-- the type with a number; a number above 3 is taken for 3
unfoldable pub kind_of : ℕ → FrameKind
kind_of number = cond (eqb number 0) Idle (cond (eqb number 1) Data (cond (eqb number 2) Type2 Type3))

-- the reserved bits, a number for each byte that has some: four at the top of d4, two of d10, one of d11
pub record ReservedBits : Type 0 where
  pub d4 : ℕ
  pub d10 : ℕ
  pub d11 : ℕ

-- "The value 1 shall be assigned to all bits indicated as reserved" (2.6.3.3.1): the sender's duty
abbrev pub all_ones : ReservedBits
all_ones = record { d4 = 15; d10 = 3; d11 = 1 }

-- d4: four reserved bits, ACK, ACK-valid, the type
abbrev pub flags_byte : ℕ → Bool → Bool → FrameKind → ℕ
flags_byte reserved ack valid kind = 16 * (reserved % 16) + 8 * flag_bit ack + 4 * flag_bit valid + kind_number kind

-- d10: two reserved bits, the seconds
abbrev pub seconds_byte : ℕ → ℕ → ℕ
seconds_byte reserved seconds = 64 * (reserved % 4) + seconds % 64

-- d11: a reserved bit, TS-applies, the opcode
abbrev pub channel_byte : ℕ → ℕ → FastChannel → ℕ
channel_byte reserved applies message = 128 * (reserved % 2) + 16 * (applies % 8) + opcode_of message % 16

-- d0 to d13
unfoldable pub field_bytes_with : ReservedBits → Header → List ℕ
field_bytes_with reserved header =
    let fields = header.fields in
    low_first 2 header.txfn.0
    ++ low_first 2 fields.rxfn.0
    ++ flags_byte reserved.d4 fields.ack fields.valid header.kind ∷ []
    ++ low_first 5 fields.stamp
    ++ seconds_byte reserved.d10 fields.seconds ∷ []
    ++ channel_byte reserved.d11 fields.applies fields.message ∷ []
    ++ low_first 2 (payload_of fields.message)

-- the CRC-16 of d0 to d13 as they stand follows them, high byte first
unfoldable pub header_bytes_with : ReservedBits → Header → List ℕ
header_bytes_with reserved header = field_bytes_with reserved header ++ high_first 2 (crc_16 (field_bytes_with reserved header))

-- the bytes that are sent
abbrev pub field_bytes : Header → List ℕ
field_bytes header = field_bytes_with all_ones header

abbrev pub header_bytes : Header → List ℕ
header_bytes header = header_bytes_with all_ones header

-- with ACK-valid 0, RXFN is 0
abbrev pub rxfn_rule : Bool → ℕ → Bool
rxfn_rule valid rxfn = valid || eqb rxfn 0

-- no field that a caller gives is too large for its bits or against its rule (refusal 6)
unfoldable pub fields_fit : Fields → Bool
fields_fit fields =
    rxfn_rule fields.valid fields.rxfn.0
    && fits_bits 16 fields.rxfn.0
    && fits_bits 40 fields.stamp
    && fits_bits 6 fields.seconds
    && fits_bits 3 fields.applies
    && message_fits fields.message

-- the header may be sent
abbrev pub header_fits : Header → Bool
header_fits header = fits_bits 16 header.txfn.0 && fields_fit header.fields
