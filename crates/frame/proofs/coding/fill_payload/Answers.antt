-- Area and check sum are the first 1,912 of the 2,040 bytes (`written_front`), and by `write_parity` these are the payload's data.
use Rattle.std.proofs.Common.{ap, arith, ◌∙◌, ◌++◌, take}
use Rattle.lent.specs.Written.{written}
use Rattle.lent.proofs.Written.{written_front}
use Rattle.reed_solomon.specs.Payload.{coded_payload}
use Rattle.frame.specs.Frame.{area_payload, area_check}
use Rattle.frame.proofs.Laws.{data_length}
use Rattle.frame.proofs.coding.fill_payload.Goals as goal

pub returns : goal.returns
unfolding area_payload
returns c =
    let area = c.args.area.now in
    let payload = c.args.payload.now in
    c.write_parity.ensures ∙ ap coded_payload (ap (take 1912) (c.write_both.ensures ∙ ap (λ l. written payload 0 (area ++ l)) c.area_check.ensures)
    ∙ written_front payload (area ++ area_check area) 1912 (data_length area (omega arith)))
