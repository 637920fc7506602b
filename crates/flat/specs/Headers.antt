-- A header's fields as C has them: bools are 0 or 1, the kind is 0 to 3. What stands for no field is handed to the library as a message that it refuses
-- (6; 11 by apply), so that the number which C gets is the first of the library's own order.
use Rattle.std.specs.Prelude.{Bool, true, cond, ◌&&◌, eqb, leb}
use Rattle.header.specs.Header.{flag_bit, kind_number, kind_of}
use Rattle.fast_channel.specs.declared.FastChannel.{FastChannel}
use Rattle.fast_channel.specs.declared.FastChannel.TheVariants.{Reserved}
use Rattle.header.specs.declared.Fields.{Fields}
use Rattle.header.specs.declared.Header.{Header}
use Rattle.flat.specs.Messages.{numbers_fit, message_of, flat_message}
use Rattle.flat.specs.declared.messages.FlatMessage.{FlatMessage}
use Rattle.flat.specs.declared.headers.FlatFields.{FlatFields}
use Rattle.flat.specs.declared.headers.FlatHeader.{FlatHeader}

-- ---- from C

-- both bools are 0 or 1
unfoldable pub flags_fit : FlatFields → Bool
flags_fit flat = leb flat.ack 1 && leb flat.valid 1

-- the message to send; where a bool, a number of the message or what stands beside the fields does not fit, a reserved one with opcode 0, which may not be sent
unfoldable pub sent_message : Bool → FlatFields → FastChannel
sent_message others flat = cond (others && flags_fit flat && numbers_fit flat.message) (message_of flat.message) (Reserved 0)

unfoldable pub fields_where : Bool → FlatFields → Fields
fields_where others flat = record {
  rxfn = record { 0 = flat.rxfn };
  ack = eqb flat.ack 1;
  valid = eqb flat.valid 1;
  stamp = flat.stamp;
  seconds = flat.seconds;
  applies = flat.applies;
  message = sent_message others flat;
}

abbrev pub fields_of : FlatFields → Fields
fields_of flat = fields_where true flat

-- a kind above 3 is refused with the fields
abbrev pub header_of : FlatHeader → Header
header_of flat = record { txfn = record { 0 = flat.txfn }; kind = kind_of flat.kind; fields = fields_where (leb flat.kind 3) flat.fields }

-- ---- to C

abbrev pub flat_fields : Fields → FlatFields
flat_fields fields = record {
  stamp = fields.stamp;
  rxfn = fields.rxfn.0;
  ack = flag_bit fields.ack;
  valid = flag_bit fields.valid;
  seconds = fields.seconds;
  applies = fields.applies;
  message = flat_message fields.message;
}

abbrev pub flat_header : Header → FlatHeader
flat_header header = record { fields = flat_fields header.fields; txfn = header.txfn.0; kind = kind_number header.kind }

-- zeros, where a refusal's answer has no header
abbrev pub no_message : FlatMessage
no_message = record { opcode = 0; first = 0; second = 0; third = 0 }

abbrev pub no_header : FlatHeader
no_header = record {
  fields = record { stamp = 0; rxfn = 0; ack = 0; valid = 0; seconds = 0; applies = 0; message = no_message };
  txfn = 0;
  kind = 0;
}
