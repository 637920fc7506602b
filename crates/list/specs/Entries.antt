-- Reading the list of packets received (01, "Reading the list"), from a position and for all inputs. An entry is a two-byte length, high
-- byte first, and the packet. `entry` answers by numbers, `packet` hands back the packet's bytes.
use Rattle.std.specs.Prelude.{◌≡◌, cond, not, ◌&&◌, List, [], ◌∷◌, ℕ, zero, suc, ◌+◌, ◌*◌, eqb, leb, length, get_or, take, drop}
use Rattle.std.specs.Prelude.{Some, None, Result, Ok, Err}
use Rattle.std.specs.Prelude as code
use Rattle.std.proofs.Math.Option.{Option, none, some, map}
use Rattle.basics.specs.Sizes.{most_packet}
use Rattle.refusals.specs.Numbers.{answer_by}
use Rattle.refusals.specs.Table.{Row, ◌when◌, first_of}
use Rattle.refusals.specs.declared.Refusal.{Refusal}
use Rattle.link.specs.Link.{Packet}
use Rattle.list.specs.declared.Place.{Place}

-- the length of the packet that stands whole at a position: 1 to 9,000, and as many bytes follow; 0 for none
unfoldable pub length_at : List ℕ → ℕ → ℕ
length_at list position =
    let n = get_or list position 0 * 256 + get_or list (position + 1) 0 in
    cond (leb 1 n && leb n most_packet && leb (position + 2 + n) (length list)) n 0

-- ---------------------------------------------------------------- entry

-- 16: the position is past the end, or its entry is of 0, above 9,000 or cut short. The list's length is a position, the end.
abbrev pub entry_table : List ℕ → ℕ → List Row
entry_table list position = 16 when (not (eqb position (length list)) && eqb (length_at list position) 0) ∷ []

unfoldable pub entry_refusal : List ℕ → ℕ → ℕ
entry_refusal list position = first_of (entry_table list position)

-- what stands at a position: the end; or the packet's place and length, and the position after it
abbrev pub found_at : List ℕ → ℕ → code.Option Place
found_at list position =
    let n = length_at list position in
    cond (eqb position (length list)) None (Some (record { start = position + 2; length = n; next = position + 2 + n }))

unfoldable pub entry_answer : List ℕ → ℕ → Result (code.Option Place) Refusal
entry_answer list position = answer_by (entry_refusal list position) (found_at list position)

-- the whole outcome of `entry`
abbrev pub EntryOutcome : List ℕ → ℕ → Result (code.Option Place) Refusal → Type 0
EntryOutcome list position r = r ≡ entry_answer list position

-- ---------------------------------------------------------------- packet

-- the packet's bytes; none at an end or a refusal
unfoldable pub packet_at : List ℕ → ℕ → Packet
packet_at list position = take (length_at list position) (drop (position + 2) list)

-- where in the list these bytes stand: they are handed back as the very bytes of the list. The empty part stands at its front.
unfoldable pub place_at : List ℕ → ℕ → ℕ
place_at list position = cond (eqb (length_at list position) 0) 0 (position + 2)

-- The whole outcome of `packet`, for a list that stands at `from`, a block of memory and an offset in it: the bytes handed back, and where they stand.
pub record PacketOutcome (list : List ℕ) (from : ℕ × ℕ) (position : ℕ) (part : List ℕ) (at : ℕ × ℕ) : Type 0 where
  pub bytes : part ≡ packet_at list position
  pub block : at.0 ≡ from.0
  pub place : at.1 ≡ place_at list position + from.1

-- ---------------------------------------------------------------- the whole list

-- what comes of an answer: the packet, and those read from the next position on; none after a refusal
abbrev pub read_on : Result (code.Option Place) Refusal → Packet → (ℕ → Option (List Packet)) → Option (List Packet)
read_on (Ok (Some entry)) packet from = map (λ packets. packet ∷ packets) (from entry.next)
read_on (Ok None) packet from = some []
read_on (Err refusal) packet from = none

-- the packets from a position to the end, by `entry` and `packet`, in fewer than k readings
abbrev pub packets_from : ℕ → List ℕ → ℕ → Option (List Packet)
packets_from zero list position = none
packets_from (suc k) list position = read_on (entry_answer list position) (packet_at list position) (packets_from k list)

-- the same from position 0; each reading passes a byte, so that there are no more packets than bytes
unfoldable pub packets_read : List ℕ → Option (List Packet)
packets_read list = packets_from (suc (length list)) list 0
