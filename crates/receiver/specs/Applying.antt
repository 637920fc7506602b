-- Applying an opened frame (01, "Receiving"; 02, M-106), for all inputs: what was missed and what is still held, the records of the area and what they do, the
-- refusals, and what is written back. What one record does is `on_piece`, and what 15 asks is `fits`, both in crates/link/specs/Link.antt.
use Rattle.std.specs.Prelude.{◌≡◌, Bool, true, false, cond, ◌&&◌, List, [], ◌∷◌, ◌++◌, ℕ, eqb, leb, length, take}
use Rattle.std.specs.Prelude.{Some, None, Result, Ok, Err}
use Rattle.std.specs.Prelude as code
use Rattle.std.proofs.Math.Option.{Option, none, some}
use Rattle.basics.specs.Sizes.{area_size, most_held, hold_size, list_size}
use Rattle.basics.specs.Numbers.{above}
use Rattle.basics.specs.Counts.{next_txfn}
use Rattle.refusals.specs.Numbers.{answer_by}
use Rattle.refusals.specs.Table.{Row, ◌when◌, ◌unless◌, first_of, by}
use Rattle.refusals.specs.declared.Refusal.{Refusal}
use Rattle.lent.specs.Written.{written}
use Rattle.header.specs.Header.{header_fits}
use Rattle.header.specs.declared.FrameKind.{FrameKind}
use Rattle.header.specs.declared.FrameKind.TheVariants.{Idle, Data, Type2, Type3}
use Rattle.header.specs.declared.Header.{Header}
use Rattle.counts.specs.declared.Txfn.{Txfn}
use Rattle.link.specs.Link.{Piece, Step, missed, held_after, on_pieces, fits}
use Rattle.basics.specs.Lists.{is_some}
use Rattle.link.specs.Store.{layout_packets}
use Rattle.packing.specs.Records.{read}
use Rattle.receiver.specs.declared.Receiver.{Receiver}
use Rattle.receiver.specs.declared.Applied.{Applied}

-- ---------------------------------------------------------------- the state

-- none is expected, and nothing is held
abbrev pub fresh_receiver : Receiver
fresh_receiver = record { expected = None; held = 0 }

abbrev pub expected_number : code.Option Txfn → Option ℕ
expected_number None = none
expected_number (Some txfn) = some txfn.0

-- after an accepted frame of any type: its TXFN plus 1 is expected, and so many bytes are held
abbrev pub receiver_then : Txfn → ℕ → Receiver
receiver_then txfn held = record { expected = Some (record { 0 = next_txfn txfn.0 }); held = held }

-- ---------------------------------------------------------------- the records

abbrev pub is_data : FrameKind → Bool
is_data Idle = false
is_data Data = true
is_data Type2 = false
is_data Type3 = false

-- the records of an area; only a DATA area is looked into; none: it is against the packing rules
abbrev pub pieces_of : FrameKind → List ℕ → Option (List Piece)
pieces_of kind area = cond (is_data kind) (read area) (some [])

abbrev pub or_none : Option (List Piece) → List Piece
or_none none = []
or_none (some pieces) = pieces

-- ---------------------------------------------------------------- refusals and answers

-- the area is of 1,908 bytes, the hold of 9,000, and the list of 10,907 or more
abbrev pub are_sized : List ℕ → List ℕ → List ℕ → Bool
are_sized area hold list = eqb (length area) area_size && eqb (length hold) hold_size && leb list_size (length list)

-- 2: what is lent is not of its size. 3: the held length is above 8,999.
abbrev pub buffers_table : List ℕ → ℕ → List ℕ → List ℕ → List Row
buffers_table area held hold list =
    2 unless are_sized area hold list
    ∷ 3 when above held most_held
    ∷ []

-- 14: a DATA area against the packing rules. 15: the first record continues a held part, none missed, and the sum passes 9,000, or 8,999 without "last".
abbrev pub area_table : List ℕ → Option (List Piece) → List Row
area_table held records =
    14 unless is_some records
    ∷ 15 unless fits held (or_none records)
    ∷ []

-- 11: a header that no opening gives, of any type: coding would refuse it with 6. The others: of the area.
abbrev pub opened_table : Header → List ℕ → List ℕ → List Row
opened_table header area held = 11 unless header_fits header ∷ area_table held (pieces_of header.kind area)

-- ---------------------------------------------------------------- the call

-- (TXFN − expected) modulo 65,536; 0 where none was expected
abbrev pub missed_count : Header → Receiver → ℕ
missed_count header receiver = missed (expected_number receiver.expected) header.txfn.0

-- the held part, the first bytes of the hold; it is dropped before the area is read where frames were missed
abbrev pub held_part : Header → Receiver → List ℕ → List ℕ
held_part header receiver hold = held_after (missed_count header receiver) (take receiver.held hold)

module _ (header : Header) (area : List ℕ) (receiver : Receiver) (hold : List ℕ) where
  -- what the records do in order: the part then held, and the packets that they complete
  unfoldable pub joined : Step
  joined = on_pieces (held_part header receiver hold) (or_none (pieces_of header.kind area))

  -- the list: per packet a two-byte length, high byte first, and the packet
  abbrev pub list_then : List ℕ
  list_then = layout_packets joined.out

  module _ (list : List ℕ) where
    abbrev pub apply_table : List Row
    apply_table = buffers_table area receiver.held hold list ++ opened_table header area (held_part header receiver hold)

    unfoldable pub apply_refusal : ℕ
    apply_refusal = first_of apply_table

    -- The whole outcome of `apply`: the answer, and the bytes of the hold and of the list. The part then held is the front of the hold; completing a packet,
    -- dropping, skipping and other types so leave the hold's bytes. The list is written from byte 0 on. All other bytes keep their values.
    pub record ApplyOutcome (r : Result Applied Refusal) (hold' list' : List ℕ) : Type 0 where
      pub answer : r ≡ answer_by apply_refusal (record {
        missed = missed_count header receiver;
        packets = length joined.out;
        listed = length list_then;
        receiver = receiver_then header.txfn (length joined.held);
      })
      pub held : hold' ≡ by apply_refusal (written hold 0 joined.held) hold
      pub listed : list' ≡ by apply_refusal (written list 0 list_then) list

-- the receiver after an answer: a refusal leaves it as it was
abbrev pub receiver_after : {E : Type 0} → Receiver → Result Applied E → Receiver
receiver_after before (Ok applied) = applied.receiver
receiver_after before (Err refusal) = before
