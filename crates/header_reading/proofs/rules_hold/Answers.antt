-- Where RXFN is against its rule the definition's conjunction is false, and where it is not, the payload's rule decides (`with_test`).
use Rattle.std.proofs.Common.{◌≡◌, sym, ap, ◌∙◌, ◌/◌, ◌%◌, get_or, nat_eq, arith}
use Rattle.basics.specs.Numbers.{number_at}
use Rattle.refusals.proofs.Table.{with_test}
use Rattle.fast_channel.specs.FastChannel.{payload_rule}
use Rattle.header.specs.Header.{rxfn_rule}
use Rattle.header_reading.specs.Reading.{rules_hold, fields_of}
use Rattle.header_reading.proofs.rules_hold.Goals as goal

pub returns-then-rxfn_rule : goal.returns-then-rxfn_rule
unfolding rules_hold fields_of
returns-then-rxfn_rule c =
    let bytes = c.args.bytes.now in
    let rxfn : c.from_le_bytes-rxfn.result ≡ number_at 2 2 bytes = omega arith in
    let payload : c.from_le_bytes-payload.result ≡ number_at 12 2 bytes = omega arith in
    with_test
    (ap (rxfn_rule (nat_eq (get_or bytes 4 0 / 4 % 2) 1)) (sym rxfn) ∙ sym c.rxfn_rule.ensures ∙ c.if-rxfn_rule.true)
    (c.payload_rule.ensures ∙ ap (payload_rule (get_or bytes 11 0 % 16)) payload)

pub returns-else-rxfn_rule : goal.returns-else-rxfn_rule
unfolding rules_hold fields_of
returns-else-rxfn_rule c =
    let rxfn : c.from_le_bytes-rxfn.result ≡ number_at 2 2 c.args.bytes.now = omega arith in
    simp (← rxfn, sym c.rxfn_rule.ensures, c.if-rxfn_rule.false)
