-- What the parts that bench/run counts leave in the bytes lent to them, and the header of the frames that it has built.
use Rattle.std.specs.Prelude.{false, cond, ◌&&◌, List, ℕ, eqb, leb, length, take}
use Rattle.basics.specs.Lists.{entries}
use Rattle.basics.specs.Sizes.{area_size, frame_size}
use Rattle.refusals.specs.Table.{by}
use Rattle.lent.specs.Written.{written}
use Rattle.reed_solomon.specs.Payload.{coded_payload}
use Rattle.reed_solomon.specs.Rows.{remainder_byte}
use Rattle.frame.specs.Frame.{frame_bytes}
use Rattle.opening.specs.Opening.{open_refusal, opened_area}
use Rattle.header.specs.declared.Header.{Header}
use Rattle.header.specs.declared.FrameKind.TheVariants.{Data}
use Rattle.fast_channel.specs.declared.FastChannel.TheVariants.{Absent}

-- DATA, frame 0: no acknowledgement, no time, no message
abbrev pub plain_header : Header
plain_header = record {
  txfn = record { 0 = 0 };
  kind = Data;
  fields = record {
    rxfn = record { 0 = 0 };
    ack = false;
    valid = false;
    stamp = 0;
    seconds = 0;
    applies = 0;
    message = Absent;
  };
}

-- a payload of 2,040 bytes with its parity; any other as it was
abbrev pub parity_out : List ℕ → List ℕ
parity_out payload = cond (eqb (length payload) 2040) (coded_payload (take 1912 payload)) payload

-- the output with what division leaves of a payload's eight words at its front, where the payload has 2,040 bytes and the output 128 or more; otherwise as
-- it was
abbrev pub remainders_out : List ℕ → List ℕ → List ℕ
remainders_out payload out = cond (eqb (length payload) 2040 && leb 128 (length out)) (written out 0 (entries (remainder_byte payload) 0 128)) out

-- the output with a frame at its front, where the area has 1,908 bytes and the output 2,081 or more; otherwise as it was
abbrev pub built_out : ℕ → List ℕ → List ℕ → List ℕ
built_out taps area out = cond (eqb (length area) area_size && leb frame_size (length out)) (written out 0 (frame_bytes taps plain_header area)) out

-- the buffer with the frame's area at its front, where the frame is not refused
abbrev pub opened_out : ℕ → List ℕ → List ℕ → List ℕ
opened_out taps frame before = by (open_refusal taps frame before) (written before 0 (opened_area taps frame)) before
