-- What a receiver reads from the 16 bytes of a header, d0 to d15 (Tables 2-9 and 2-10; 01, "The frame on the wire"), and what read_header does, for all
-- inputs. A refusal's number is 0 where nothing is refused (01, "Refusal numbers").
use Rattle.std.specs.Prelude.{Bool, ◌&&◌, List, [], ◌∷◌, ◌≡◌, ℕ, ◌/◌, ◌%◌, eqb, length, get_or, take, drop, Result}
use Rattle.basics.specs.Lists.{same}
use Rattle.basics.specs.Numbers.{digit, high_first, number_at}
use Rattle.refusals.specs.Numbers.{answer_by}
use Rattle.refusals.specs.Table.{Row, ◌unless◌, first_of}
use Rattle.refusals.specs.declared.Refusal.{Refusal}
use Rattle.crc.specs.Crc.{crc_16}
use Rattle.fast_channel.specs.FastChannel.{message_of, payload_rule}
use Rattle.header.specs.Header.{ReservedBits, kind_of, rxfn_rule}
use Rattle.header.specs.declared.Fields.{Fields}
use Rattle.header.specs.declared.Header.{Header}

-- ---- what the bytes hold

-- the fast channel's opcode and payload
abbrev pub opcode_in : List ℕ → ℕ
opcode_in d = get_or d 11 0 % 16

abbrev pub payload_in : List ℕ → ℕ
payload_in d = number_at 12 2 d

unfoldable pub fields_of : List ℕ → Fields
fields_of d = record {
  rxfn = record { 0 = number_at 2 2 d };
  ack = eqb (digit 3 (get_or d 4 0)) 1;
  valid = eqb (digit 2 (get_or d 4 0)) 1;
  stamp = number_at 5 5 d;
  seconds = get_or d 10 0 % 64;
  applies = get_or d 11 0 / 16 % 8;
  message = message_of (opcode_in d) (payload_in d);
}

-- the header that 16 bytes hold
unfoldable pub header_of : List ℕ → Header
header_of d = record { txfn = record { 0 = number_at 0 2 d }; kind = kind_of (get_or d 4 0 % 4); fields = fields_of d }

-- the reserved bits, which are of either value (02, M-100)
unfoldable pub reserved_in : List ℕ → ReservedBits
reserved_in d = record { d4 = get_or d 4 0 / 16; d10 = get_or d 10 0 / 64; d11 = get_or d 11 0 / 128 }

-- ---- what is refused

-- d14 and d15 are the CRC-16 of the bytes before them as they came, high byte first
unfoldable pub sum_holds : List ℕ → Bool
sum_holds d = same (drop 14 d) (high_first 2 (crc_16 (take 14 d)))

-- no field is against its rule
unfoldable pub rules_hold : List ℕ → Bool
rules_hold d = rxfn_rule (fields_of d).valid (fields_of d).rxfn.0 && payload_rule (opcode_in d) (payload_in d)

-- 9: the CRC-16 differs. 11: a received field is against its rule. 10 is never given: its number is empty since 02, M-100.
abbrev pub header_table : List ℕ → List Row
header_table d =
    9 unless sum_holds d
    ∷ 11 unless rules_hold d
    ∷ []

-- ---- read_header

-- 2: there are not exactly 16 bytes. Then 9 and 11 by what they hold.
abbrev pub read_table : List ℕ → List Row
read_table bytes = 2 unless eqb (length bytes) 16 ∷ header_table bytes

unfoldable pub read_refusal : List ℕ → ℕ
read_refusal bytes = first_of (read_table bytes)

abbrev pub read_header : List ℕ → Result Header Refusal
read_header bytes = answer_by (read_refusal bytes) (header_of bytes)

-- the whole outcome of `read_header`
abbrev pub ReadHeaderOutcome : List ℕ → Result Header Refusal → Type 0
ReadHeaderOutcome bytes r = r ≡ read_header bytes
