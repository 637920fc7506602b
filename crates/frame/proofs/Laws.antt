-- How long a frame and its parts are; and its coded header is bytes, as its payload is where the area is.
use mathlib.Core.Path.{◌≡◌, refl, ap₂, ◌∙◌}
use mathlib.Core.List.{List, ◌++◌}
use Prim.Native.Nat.{ℕ, ◌+◌}
use lib.ListN.{length, length-append}
use Rattle.basics.specs.Lists.{zeros, Bytes}
use Rattle.basics.proofs.Lists.{zeros_bytes, bytes_append}
use Rattle.basics.proofs.Numbers.{high_first_bytes}
use Rattle.crc.specs.Crc.{crc_32}
use Rattle.reed_solomon.specs.Code.{parity}
use Rattle.reed_solomon.proofs.Laws.{parity_length}
use Rattle.reed_solomon.proofs.Roots.{parity_bytes}
use Rattle.reed_solomon.proofs.Interleaved.{coded_length, coded_bytes}
use Rattle.scrambler.proofs.Laws.{scrambled_length}
use Rattle.header.specs.Header.{ReservedBits, header_bytes_with}
use Rattle.header.specs.declared.Header.{Header}
use Rattle.header.proofs.Bytes.{header_length, header_bytes_lem}
use Rattle.frame.specs.Frame.{coded_header_with, area_check, area_payload, frame_bytes_with}

pub check_length : (area : List ℕ) → length (area_check area) ≡ 4
unfolding area_check
check_length area = refl

pub data_length : (area : List ℕ) → length area ≡ 1908 → length (area ++ area_check area) ≡ 1912
data_length area e = length-append area (area_check area) ∙ ap₂ (λ (a b : ℕ). a + b) e (check_length area)

pub payload_length : (area : List ℕ) → length area ≡ 1908 → length (area_payload area) ≡ 2040
unfolding area_payload
payload_length area e = coded_length (area ++ area_check area) (data_length area e)

pub payload_bytes : (area : List ℕ) → Bytes area → Bytes (area_payload area)
unfolding area_payload area_check
payload_bytes area h = coded_bytes (area ++ area_check area) (bytes_append area (area_check area) h (high_first_bytes 4 (crc_32 area)))

module _ (reserved : ReservedBits) (header : Header) where
  abbrev bytes : List ℕ
  bytes = header_bytes_with reserved header

  pub coded_header_length : length (coded_header_with reserved header) ≡ 32
  unfolding coded_header_with
  coded_header_length = length-append bytes _ ∙ ap₂ (λ (a b : ℕ). a + b) (header_length reserved header) (parity_length (zeros 223 ++ bytes))

  pub coded_header_bytes : Bytes (coded_header_with reserved header)
  unfolding coded_header_with
  coded_header_bytes =
      let h = header_bytes_lem reserved header in
      let word = zeros 223 ++ bytes in
      bytes_append bytes (parity word) h (parity_bytes word (bytes_append (zeros 223) bytes (zeros_bytes 223) h))

  pub frame_length : (taps : ℕ) (area : List ℕ) → length area ≡ 1908 → length (frame_bytes_with taps reserved header area) ≡ 2081
  unfolding frame_bytes_with
  frame_length taps area e = simp (length-append, scrambled_length, coded_header_length, payload_length area e)
