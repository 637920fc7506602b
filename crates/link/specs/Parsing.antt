-- The queue that bytes stand for, read mark by mark; none: they are not whole (refusal 3). Reading is the inverse of the layout in `Store`: demand 2 says so
-- (`queue_exactly`), so whoever believes `layout` and `IsQueue` need not believe anything here.
use Rattle.std.specs.Prelude.{Bool, cond, ◌&&◌, List, [], ◌∷◌, ℕ, zero, suc, ◌+◌, ◌-◌, ◌*◌, length, get_or, take, drop, leb}
use Rattle.std.proofs.Math.Option.{Option, none, some, map}
use Rattle.basics.specs.Sizes.{most_packet, most_held, begun_bit}
use Rattle.basics.specs.Lists.{is_some}
use Rattle.link.specs.Link.{Packet, Queue}

-- the mark at the front of the bytes
abbrev pub mark_at : List ℕ → ℕ
mark_at bytes = get_or bytes 0 0 * 256 + get_or bytes 1 0

-- n is a length, at most `most`, and as many bytes stand behind the mark
abbrev pub is_length : ℕ → ℕ → List ℕ → Bool
is_length most n bytes = leb 1 n && leb n most && leb (2 + n) (length bytes)

abbrev pub with_front : Packet → Option (List Packet) → Option (List Packet)
with_front packet packets = map (λ behind. packet ∷ behind) packets

-- the packets that fill the bytes, none of them begun, if there are fewer than k of them
abbrev pub parse_waiting : ℕ → List ℕ → Option (List Packet)
parse_waiting zero bytes = none
parse_waiting (suc k) [] = some []
parse_waiting (suc k) (x ∷ xs) =
    let bytes = x ∷ xs in
    let n = mark_at bytes in
    cond (is_length most_packet n bytes) (with_front (take n (drop 2 bytes)) (parse_waiting k (drop (2 + n) bytes))) none

-- the same, however many there are: they are no more than the bytes
unfoldable pub packets_in : List ℕ → Option (List Packet)
packets_in bytes = parse_waiting (suc (length bytes)) bytes

abbrev pub with_rest : Option (List ℕ) → Option (List Packet) → Option Queue
with_rest rest none = none
with_rest rest (some packets) = some (record { rest = rest; waiting = packets })

-- a begun packet in front, with n bytes unsent
abbrev pub parse_begun : ℕ → List ℕ → Option Queue
parse_begun n bytes = cond (is_length most_held n bytes) (with_rest (some (take n (drop 2 bytes))) (packets_in (drop (2 + n) bytes))) none

-- Reading is the inverse of the layout: `parse_iff` in proofs/RoundTrip.antt.
unfoldable pub parse : List ℕ → Option Queue
parse bytes = cond (leb begun_bit (mark_at bytes)) (parse_begun (mark_at bytes - begun_bit) bytes) (with_rest none (packets_in bytes))

-- whether the bytes are whole
unfoldable pub is_whole : List ℕ → Bool
is_whole bytes = is_some (parse bytes)
