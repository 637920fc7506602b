-- What C gets for each answer of the library: the refusal's number, 0 for none, and the values. After a refusal the state is the one that was given,
-- and all else is 0.
use Rattle.std.specs.Prelude.{ℕ, Option, Some, None, Result, Ok, Err}
use Rattle.refusals.specs.Numbers.{number_of, number_in}
use Rattle.refusals.specs.declared.Refusal.{Refusal}
use Rattle.header.specs.Header.{kind_number}
use Rattle.header.specs.declared.Header.{Header}
use Rattle.list.specs.declared.Place.{Place}
use Rattle.opening.specs.declared.Opened.{Opened}
use Rattle.receiver.specs.declared.Applied.{Applied}
use Rattle.sender.specs.declared.Sender.{Sender}
use Rattle.sender.specs.declared.Counted.{Counted}
use Rattle.sending.specs.declared.Sent.{Sent}
use Rattle.flat.specs.Headers.{flat_header, no_header}
use Rattle.flat.specs.States.{flat_sender, flat_receiver}
use Rattle.flat.specs.declared.states.FlatReceiver.{FlatReceiver}
use Rattle.flat.specs.declared.states.FlatSender.{FlatSender}
use Rattle.flat.specs.declared.FlatPut.{FlatPut}
use Rattle.flat.specs.declared.FlatWaiting.{FlatWaiting}
use Rattle.flat.specs.declared.FlatNext.{FlatNext}
use Rattle.flat.specs.declared.FlatOpen.{FlatOpen}
use Rattle.flat.specs.declared.FlatRepair.{FlatRepair}
use Rattle.flat.specs.declared.FlatApply.{FlatApply}
use Rattle.flat.specs.declared.FlatCode.{FlatCode}
use Rattle.flat.specs.declared.FlatRead.{FlatRead}
use Rattle.flat.specs.declared.FlatEntry.{FlatEntry}
use Rattle.flat.specs.declared.FlatPacket.{FlatPacket}

abbrev pub flat_put : FlatSender → Result Sender Refusal → FlatPut
flat_put given (Ok sender) = record { sender = flat_sender sender; refusal = 0 }
flat_put given (Err refusal) = record { sender = given; refusal = number_of refusal }

abbrev pub flat_waiting : Result Counted Refusal → FlatWaiting
flat_waiting (Ok counted) = record { packets = counted.packets; bytes = counted.bytes; refusal = 0 }
flat_waiting (Err refusal) = record { packets = 0; bytes = 0; refusal = number_of refusal }

abbrev pub flat_next : FlatSender → Result Sent Refusal → FlatNext
flat_next given (Ok sent) = record { sender = flat_sender sent.sender; kind = kind_number sent.kind; refusal = 0 }
flat_next given (Err refusal) = record { sender = given; kind = 0; refusal = number_of refusal }

abbrev pub flat_open : Result Opened Refusal → FlatOpen
flat_open (Ok opened) = record { header = flat_header opened.header; repaired = opened.repaired; refusal = 0 }
flat_open (Err refusal) = record { header = no_header; repaired = 0; refusal = number_of refusal }

abbrev pub flat_repair : Result ℕ Refusal → FlatRepair
flat_repair (Ok repaired) = record { repaired = repaired; refusal = 0 }
flat_repair (Err refusal) = record { repaired = 0; refusal = number_of refusal }

abbrev pub flat_apply : FlatReceiver → Result Applied Refusal → FlatApply
flat_apply given (Ok applied) = record {
  receiver = flat_receiver applied.receiver;
  packets = applied.packets;
  listed = applied.listed;
  missed = applied.missed;
  refusal = 0;
}
flat_apply given (Err refusal) = record { receiver = given; packets = 0; listed = 0; missed = 0; refusal = number_of refusal }

-- that a header was coded has no values beside the number
abbrev pub flat_code : Result (Unit {0}) Refusal → FlatCode
flat_code answer = record { refusal = number_in answer }

abbrev pub flat_read : Result Header Refusal → FlatRead
flat_read (Ok header) = record { header = flat_header header; refusal = 0 }
flat_read (Err refusal) = record { header = no_header; refusal = number_of refusal }

-- found is 1 for a packet, and 0 at the end and after a refusal
abbrev pub flat_entry : Result (Option Place) Refusal → FlatEntry
flat_entry (Ok (Some place)) = record { start = place.start; length = place.length; next = place.next; found = 1; refusal = 0 }
flat_entry (Ok None) = record { start = 0; length = 0; next = 0; found = 0; refusal = 0 }
flat_entry (Err refusal) = record { start = 0; length = 0; next = 0; found = 0; refusal = number_of refusal }

-- C gets no reference: where the packet stands in the caller's list, an empty part at an end or a refusal
abbrev pub flat_packet : Result (Option Place) Refusal → FlatPacket
flat_packet (Ok (Some place)) = record { start = place.start; length = place.length }
flat_packet (Ok None) = record { start = 0; length = 0 }
flat_packet (Err refusal) = record { start = 0; length = 0 }
