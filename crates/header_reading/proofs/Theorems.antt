-- The theorems of the header (demand 2): what is coded is read back, whatever the reserved bits beside it; what is read is what was coded, with the
-- reserved bits that came; so coding it again gives the same bytes exactly where these were ones.
use mathlib.Core.Path.{◌≡◌, sym, ap, ◌∙◌}
use mathlib.Core.Logic.{◌↔◌}
use mathlib.Core.Bool.{true}
use mathlib.Core.List.{List}
use Prim.Native.Nat.{ℕ}
use Rattle.std.specs.Prelude.{Ok}
use Rattle.basics.specs.Lists.{Bytes}
use Rattle.refusals.proofs.Numbers.{answered}
use Rattle.header.specs.Header.{ReservedBits, all_ones, header_bytes, header_bytes_with, header_fits}
use Rattle.header_reading.specs.Reading.{header_of, reserved_in, read_refusal, read_header}
use Rattle.header.specs.declared.Header.{Header}
use Rattle.header.proofs.Bytes.{header_length}
use Rattle.header_reading.proofs.Calls.{read_length, read_by_content}
use Rattle.header_reading.proofs.Sent.{sendable, header_back, ones_sent, none_refused}
use Rattle.header_reading.proofs.Received.{received_fits, header_again}

-- Reading what was coded gives the header back, for every header that may be sent and all reserved bits.
pub read_of_coded : (reserved : ReservedBits) (header : Header) → header_fits header ≡ true → read_header (header_bytes_with reserved header) ≡ Ok header
read_of_coded reserved header e =
    let bytes = header_bytes_with reserved header in
    let s = sendable header e in
    let none = read_by_content bytes (header_length reserved header) ∙ none_refused reserved header s in
    sym (answered (read_refusal bytes) _ _ none (sym (header_back reserved header s)))

-- Coding what was read with the reserved bits that came gives the same 16 bytes, for all bytes that are accepted; and what was read may be sent.
pub coded_of_read : (bytes : List ℕ) → Bytes bytes → read_refusal bytes ≡ 0
    → (header_bytes_with (reserved_in bytes) (header_of bytes) ≡ bytes) × (header_fits (header_of bytes) ≡ true)
coded_of_read bytes h e =
    let size = read_length bytes e in
    let none = sym (read_by_content bytes size) ∙ e in
    (header_again bytes h size none, received_fits bytes h size none)

-- Coded as we send it, it is the same 16 bytes exactly where the reserved bits were ones.
pub sent_of_read : (bytes : List ℕ) → Bytes bytes → read_refusal bytes ≡ 0 → (header_bytes (header_of bytes) ≡ bytes) ↔ (reserved_in bytes ≡ all_ones)
sent_of_read bytes h e = (
  λ same. ap reserved_in (sym same) ∙ ones_sent (header_of bytes),
  λ ones. ap (λ (r : ReservedBits). header_bytes_with r (header_of bytes)) (sym ones) ∙ (coded_of_read bytes h e).0,
)
