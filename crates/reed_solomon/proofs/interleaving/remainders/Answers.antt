-- The payload is cut before its last 128 bytes, and the sum is what division leaves of the words (`remainders_are`).
use Rattle.std.proofs.Common.{◌∙◌, ap, ap₂}
use Rattle.basics.specs.Lists.{entries}
use Rattle.division.specs.Division.{plus}
use Rattle.reed_solomon.specs.Payload.{parity_byte}
use Rattle.reed_solomon.proofs.Remainders.{remainders_are}
use Rattle.reed_solomon.proofs.interleaving.remainders.Goals as goal

pub returns : goal.returns
returns c =
    let payload = c.args.payload.now in
    c.plus.ensures
    ∙ ap₂ plus (c.parity_bytes.ensures ∙ ap (λ l. entries (parity_byte l) 0 128) c.split_at.ensures.front) c.split_at.ensures.back
    ∙ remainders_are payload c.requires
