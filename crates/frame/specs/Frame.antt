-- A frame on the wire (2.6.3.1; 01, "The frame on the wire"): 2,081 bytes, made of a header, with reserved bits of any value or as it is sent, and 1,908
-- bytes of area.
use Rattle.std.specs.Prelude.{List, [], ◌∷◌, ◌++◌, ℕ}
use Rattle.basics.specs.Lists.{zeros}
use Rattle.basics.specs.Numbers.{high_first}
use Rattle.crc.specs.Crc.{crc_32}
use Rattle.reed_solomon.specs.Code.{parity}
use Rattle.reed_solomon.specs.Payload.{coded_payload}
use Rattle.scrambler.specs.Scrambler.{scrambled}
use Rattle.header.specs.Header.{ReservedBits, all_ones, header_bytes_with}
use Rattle.header.specs.declared.Header.{Header}

-- 9 bytes, not scrambled
abbrev pub preamble : List ℕ
preamble = 0x77 ∷ 0xAD ∷ 0x5B ∷ 0x58 ∷ 0x43 ∷ 0x64 ∷ 0x1E ∷ 0x2E ∷ 0x26 ∷ []

-- 32 bytes: the header's 16, then their parity, coded with 223 zero bytes in front that are not sent
unfoldable pub coded_header_with : ReservedBits → Header → List ℕ
coded_header_with reserved header = header_bytes_with reserved header ++ parity (zeros 223 ++ header_bytes_with reserved header)

-- the CRC-32 of the area, high byte first
unfoldable pub area_check : List ℕ → List ℕ
area_check area = high_first 4 (crc_32 area)

-- 2,040 bytes: the area and its check sum, coded into eight interleaved words
unfoldable pub area_payload : List ℕ → List ℕ
area_payload area = coded_payload (area ++ area_check area)

-- the whole frame: what follows the preamble is scrambled, header and payload without a break
unfoldable pub frame_bytes_with : ℕ → ReservedBits → Header → List ℕ → List ℕ
frame_bytes_with taps reserved header area = preamble ++ scrambled taps (coded_header_with reserved header ++ area_payload area)

-- the frame that is sent
abbrev pub frame_bytes : ℕ → Header → List ℕ → List ℕ
frame_bytes taps header area = frame_bytes_with taps all_ones header area
