-- The receiver's own invariant: the held part stays at most 8,999 bytes, whatever frames it accepts, so that refusal 3 is never given to a state of its own.
-- And what it puts out are packets.
use mathlib.Core.Path.{◌≡◌, refl}
use mathlib.Core.Bool.{Bool, true, false}
use mathlib.Core.List.{List, [], ◌∷◌, ◌++◌}
use Prim.Native.Nat.{ℕ, zero, suc, ◌+◌, ◌≤◌, ◌<◌}
use native.Mathlib.Omega.{arith}
use lib.Dec.{leb}
use lib.ListN.{length, length-append}
use borrow.Author.Tests.{leb-true}
use Rattle.link.specs.Link.{Packet, ArePackets, Piece, on_piece, on_pieces, most_joined, fits, missed, held_after}
use Rattle.link.proofs.Machine.{Receiver, receive_with, receive}
use Rattle.link.proofs.Reassembly.{Filled}

-- Pieces as any accepted area has them: only the first may go on with a packet, and none is longer than 8,999 bytes.
abbrev pub AllFirst : List Piece → Type 0
AllFirst [] = Unit {0}
AllFirst (p ∷ ps) = (p.first ≡ true) × (length p.bytes ≤ 8999) × AllFirst ps

abbrev pub Shape : List Piece → Type 0
Shape [] = Unit {0}
Shape (p ∷ ps) = (length p.bytes ≤ 8999) × AllFirst ps

first_bound : (h : List ℕ) (last : Bool) (b : List ℕ) → length b ≤ 8999 → length (on_piece h true last b).held ≤ 8999
first_bound h true b k = omega arith
first_bound h false b k = k

rest_bound : (h : List ℕ) (ps : List Piece) → length h ≤ 8999 → AllFirst ps → length (on_pieces h ps).held ≤ 8999
rest_bound h [] k a = k
rest_bound h (p ∷ ps) k a =
    rest_bound (on_piece h p.first p.last p.bytes).held ps (rw a.0 (first_bound h p.last p.bytes a.1)) a.2

piece_bound : (h : List ℕ) (first last : Bool) (b : List ℕ) → length b ≤ 8999 → fits h (record { first = first; last = last; bytes = b } ∷ []) ≡ true
    → length (on_piece h first last b).held ≤ 8999
piece_bound h true last b k e = first_bound h last b k
piece_bound [] false last b k e = omega arith
piece_bound (x ∷ h) false true b k e = omega arith
piece_bound (x ∷ h) false false b k e = rw length-append (omega (arith, leb-true (length (x ∷ h) + length b) (most_joined false) e))

pub held_bound : (h : List ℕ) (ps : List Piece) → length h ≤ 8999 → Shape ps → fits h ps ≡ true → length (on_pieces h ps).held ≤ 8999
held_bound h [] k s e = k
held_bound h (p ∷ ps) k s e = rest_bound (on_piece h p.first p.last p.bytes).held ps (piece_bound h p.first p.last p.bytes s.0 e) s.1

pub receive_bound : (r : Receiver) (t : ℕ) (ps : List Piece) → length r.held ≤ 8999 → Shape ps → length (receive r t ps).state.held ≤ 8999
unfolding receive
receive_bound r t ps k s = go (held_after (missed r.expected t) r.held) (dropped (missed r.expected t))
  where
    dropped : (m : ℕ) → length (held_after m r.held) ≤ 8999
    dropped zero = k
    dropped (suc m) = omega arith

    go : (h : List ℕ) → length h ≤ 8999 → length (receive_with r t (missed r.expected t) h ps).state.held ≤ 8999
    go h l = fitting (fits h ps) refl
      where
        fitting : (b : Bool) → fits h ps ≡ b → length (receive_with r t (missed r.expected t) h ps).state.held ≤ 8999
        fitting true e = rw e (held_bound h ps l s e)
        fitting false e = rw e k

-- ---- what pieces complete are packets, if none of them is empty

packets_append : (a b : List Packet) → ArePackets a → ArePackets b → ArePackets (a ++ b)
packets_append [] b h k = k
packets_append (p ∷ a) b h k = (h.0, packets_append a b h.1 k)

first_packets : (h : List ℕ) (last : Bool) (b : List ℕ) → 0 < length b → length b ≤ 8999 → ArePackets (on_piece h true last b).out
first_packets h true b low high = ((low, omega arith), tt)
first_packets h false b low high = tt

piece_packets : (h : List ℕ) (first last : Bool) (b : List ℕ) → 0 < length b → length b ≤ 8999
    → fits h (record { first = first; last = last; bytes = b } ∷ []) ≡ true → ArePackets (on_piece h first last b).out
piece_packets h true last b low high e = first_packets h last b low high
piece_packets [] false last b low high e = tt
piece_packets (x ∷ h) false true b low high e =
    rw length-append ((omega arith, omega (arith, leb-true (length (x ∷ h) + length b) (most_joined true) e)), tt)
piece_packets (x ∷ h) false false b low high e = tt

rest_packets : (h : List ℕ) (ps : List Piece) → Filled ps → AllFirst ps → ArePackets (on_pieces h ps).out
rest_packets h [] f a = tt
rest_packets h (p ∷ ps) f a =
    packets_append (on_piece h p.first p.last p.bytes).out (on_pieces (on_piece h p.first p.last p.bytes).held ps).out
    (rw a.0 (first_packets h p.last p.bytes f.0 a.1))
    (rest_packets (on_piece h p.first p.last p.bytes).held ps f.1 a.2)

pub out_packets : (h : List ℕ) (ps : List Piece) → Filled ps → Shape ps → fits h ps ≡ true → ArePackets (on_pieces h ps).out
out_packets h [] f s e = tt
out_packets h (p ∷ ps) f s e =
    packets_append (on_piece h p.first p.last p.bytes).out (on_pieces (on_piece h p.first p.last p.bytes).held ps).out
    (piece_packets h p.first p.last p.bytes f.0 s.0 e)
    (rest_packets (on_piece h p.first p.last p.bytes).held ps f.1 s.1)
