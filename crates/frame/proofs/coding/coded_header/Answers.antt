-- The header's bytes and their parity fill the 32 (`written_whole`). The standard codes the header behind 223 zeros; the code leaves them out, since zeros in
-- front change no parity (`parity_zeros`).
use Rattle.std.proofs.Common.{◌≡◌, sym, ap, ap₂, ◌∙◌, ◌++◌, ℕ, ◌+◌, length, length-append}
use Rattle.basics.specs.Lists.{zeros}
use Rattle.basics.proofs.Lists.{zeros_length}
use Rattle.lent.specs.Written.{written}
use Rattle.lent.proofs.Written.{written_whole}
use Rattle.reed_solomon.specs.Code.{parity}
use Rattle.reed_solomon.proofs.Laws.{parity_zeros, parity_length}
use Rattle.header.specs.Header.{all_ones, header_bytes}
use Rattle.header.proofs.Bytes.{header_length}
use Rattle.frame.specs.Frame.{coded_header_with}
use Rattle.frame.proofs.coding.coded_header.Goals as goal

pub returns : goal.returns
unfolding coded_header_with
returns c =
    let bytes = header_bytes c.args.header in
    let coded : c.header_bytes-bytes.result ++ c.parity_of-parity.result ≡ bytes ++ parity bytes =
    ap₂ (λ a b. a ++ b) c.header_bytes-bytes.ensures (c.parity_of-parity.ensures ∙ ap parity c.header_bytes-bytes.ensures) in
    let long : length (bytes ++ parity bytes) ≡ 32 =
    length-append bytes (parity bytes) ∙ ap₂ (λ (a b : ℕ). a + b) (header_length all_ones c.args.header) (parity_length bytes) in
    c.write_both.ensures ∙ ap (written (zeros 32) 0) coded ∙ written_whole (zeros 32) (bytes ++ parity bytes) (long ∙ sym (zeros_length 32))
    ∙ ap (λ l. bytes ++ l) (sym (parity_zeros 223 bytes))
