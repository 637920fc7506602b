-- The code compares two numbers, the definition two lists of bytes: the same, since a CRC-16 is below 65,536 (`sum_same`).
use Rattle.std.proofs.Common.{◌≡◌, ◌+◌, ◌*◌, arith, take, get_or}
use Rattle.crc.specs.Crc.{crc_16}
use Rattle.crc.proofs.Bytes.{crc_16_lt}
use Rattle.header_reading.specs.Reading.{sum_holds}
use Rattle.header_reading.proofs.Bits.{sum_same}
use Rattle.header_reading.proofs.sum_holds.Goals as goal

pub returns : goal.returns
unfolding sum_holds
returns c =
    let bytes = c.args.bytes.now in
    let two : c.from_be_bytes.result ≡ get_or bytes 15 0 + 256 * get_or bytes 14 0 = omega arith in
    simp (c.crc_16-sum.ensures, two)
    (sum_same (crc_16 (take 14 bytes)) bytes (crc_16_lt (take 14 bytes)) (omega arith) (omega arith) (omega arith))
