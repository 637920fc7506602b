-- What the next frame takes is a cut of the queue, of `load` bytes, and its records stand as the rules ask.
use mathlib.Core.Path.{◌≡◌, refl, sym}
use mathlib.Core.Bool.{Bool, true, false, cond}
use mathlib.Core.Option.{Option, none, some}
use mathlib.Core.List.{List, [], ◌∷◌}
use Prim.Native.Nat.{ℕ, suc, ◌+◌, ◌-◌, ◌≤◌, ◌<◌}
use native.Mathlib.Omega.{arith}
use native.Mathlib.Decide.{dec_le}
use lib.ListN.{length, take, drop, length-take}
use lib.Dec.{leb}
use borrow.Author.Tests.{le-leb, lt-leb}
use Rattle.link.specs.Link.{Packet, ArePackets, Piece, Queue, IsRest, IsQueue, busy_with, busy, Cut, cut_nothing, cut_last, piece_then}
use Rattle.link.proofs.Machine.{cut_packet, cut_waiting, cut_rest, cut_from, cut}
use Rattle.link.proofs.Sender.{cut_queue}
use Rattle.packing.specs.Rules.{shortest}
use Rattle.packing.specs.Filling.{fill_front, fill_waiting, fill_from, fill}
use Rattle.packing.proofs.Packed.{Packed}

-- ---- one record more, as a loop makes them

module _ (room : ℕ) (first : Bool) (bytes : List ℕ) (packets : List Packet) (more : Cut) where
  pub front_whole : 2 + length bytes ≤ room → fill_front room first bytes packets more ≡ piece_then (record { first = first; last = true; bytes = bytes }) more
  front_whole h = rw (le-leb (2 + length bytes) room h)

  pub front_part : room < 2 + length bytes
      → fill_front room first bytes packets more
      ≡ cut_last (record { first = first; last = false; bytes = take (room - 2) bytes }) (drop (room - 2) bytes) packets
  front_part h = rw (lt-leb (2 + length bytes) room h)

pub waiting_front : (room : ℕ) (p : Packet) (ps : List Packet) → shortest ≤ room
    → fill_waiting room (p ∷ ps) ≡ fill_front room true p ps (fill_waiting (room - (2 + length p)) ps)
unfolding fill_waiting
waiting_front room p ps h = rw (le-leb shortest room h)

pub waiting_none : (room : ℕ) → fill_waiting room [] ≡ cut_nothing none []
unfolding fill_waiting
waiting_none room = refl

pub waiting_full : (room : ℕ) (ps : List Packet) → room < shortest → fill_waiting room ps ≡ cut_nothing none ps
unfolding fill_waiting
waiting_full room [] h = refl
waiting_full room (p ∷ ps) h = rw (lt-leb shortest room h)

-- ---- a cut of the queue

abbrev bytes_in : List Piece → ℕ
bytes_in [] = 0
bytes_in (piece ∷ pieces) = length piece.bytes + bytes_in pieces

-- how many bytes of the queue the next frame takes
unfoldable pub load : Queue → ℕ
load queue = bytes_in (fill 1908 queue).pieces

-- a front packet of which n bytes are cut: all of them, and then more (`further`); or a part
abbrev cut_front : Bool → List ℕ → (ℕ → Cut) → (ℕ → Cut) → ℕ → Cut
cut_front first bytes further part n = cond (leb (length bytes) n)
    (piece_then (record { first = first; last = true; bytes = bytes }) (further (n - length bytes)))
    (part n)

module _ (room : ℕ) (first : Bool) (bytes : List ℕ) (packets : List Packet) (more : Cut) (further part : ℕ → Cut) (h : shortest ≤ room)
    (f : further (bytes_in more.pieces) ≡ more)
    (p : (n : ℕ) → part (suc n) ≡ cut_last (record { first = first; last = false; bytes = take (suc n) bytes }) (drop (suc n) bytes) packets) where
  front_cut : cut_front first bytes further part (bytes_in (fill_front room first bytes packets more).pieces) ≡ fill_front room first bytes packets more
  front_cut = go (dec_le (2 + length bytes) room)
    where
      go : Dec (2 + length bytes ≤ room)
          → cut_front first bytes further part (bytes_in (fill_front room first bytes packets more).pieces) ≡ fill_front room first bytes packets more
      go (yes y) =
          let m = bytes_in more.pieces in
          let z : length bytes + m - length bytes ≡ m = omega arith in
          rw (front_whole room first bytes packets more y, le-leb (length bytes) (length bytes + m) (omega arith), z, f)
      go (no y) =
          let n = room - 3 in
          let z : room - 2 ≡ suc n = omega arith in
          let w : length (take (suc n) bytes) + 0 ≡ suc n = rw length-take (omega arith) in
          rw (front_part room first bytes packets more (omega arith), z, w, lt-leb (length bytes) (suc n) (omega arith), p n)

waiting_cut : (room : ℕ) (ps : List Packet) → ArePackets ps → cut_waiting (bytes_in (fill_waiting room ps).pieces) ps ≡ fill_waiting room ps
waiting_cut room [] a = rw (waiting_none room)
waiting_cut room (p ∷ ps) a = go (dec_le shortest room) (waiting_cut (room - (2 + length p)) ps a.1)
  where
    more : Cut
    more = fill_waiting (room - (2 + length p)) ps

    go : Dec (shortest ≤ room) → cut_waiting (bytes_in more.pieces) ps ≡ more
        → cut_waiting (bytes_in (fill_waiting room (p ∷ ps)).pieces) (p ∷ ps) ≡ fill_waiting room (p ∷ ps)
    go (yes y) f = rw (waiting_front room p ps y) (front_cut room true p ps more (λ n. cut_waiting n ps) (λ n. cut_packet n p ps) y f (λ n. refl))
    go (no y) f = rw (waiting_full room (p ∷ ps) (omega arith), lt-leb (length p) 0 a.0.0)

pub fill_cut : (q : Queue) → IsQueue q → fill 1908 q ≡ cut (load q) q
unfolding load
fill_cut q h = sym (go q.rest q.waiting h.0 h.1)
  where
    go : (rest : Option (List ℕ)) (ps : List Packet) → IsRest rest → ArePackets ps
        → cut_from (bytes_in (fill_from 1908 rest ps).pieces) rest ps ≡ fill_from 1908 rest ps
    go none ps k a = waiting_cut 1908 ps a
    go (some r) ps k a =
        let more = fill_waiting (1908 - (2 + length r)) ps in
        front_cut 1908 false r ps more (λ n. cut_waiting n ps) (λ n. cut_rest n r ps) (omega arith) (waiting_cut (1908 - (2 + length r)) ps a) (λ n. refl)

-- ---- its records

front_packed : (at room : ℕ) (first : Bool) (bytes : List ℕ) (packets : List Packet) (more : Cut)
    → (first ≡ false → at ≡ 0) → 1 ≤ length bytes → shortest ≤ room → room ≤ 1908
    → Packed (at + (2 + length bytes)) (room - (2 + length bytes)) more.pieces
    → Packed at room (fill_front room first bytes packets more).pieces
front_packed at room first bytes packets more f low h high k = go (dec_le (2 + length bytes) room)
  where
    go : Dec (2 + length bytes ≤ room) → Packed at room (fill_front room first bytes packets more).pieces
    go (yes y) = rw (front_whole room first bytes packets more y)
        (record { low = low; high = omega arith; fits = y; first = f; last = λ e. let z : ◌≡◌ {A = ℕ} 0 1 = cc in absurd (omega arith) }, k)
    go (no y) =
        let w : length (take (room - 2) bytes) ≡ room - 2 = rw length-take (omega arith) in
        rw (front_part room first bytes packets more (omega arith))
        (record { low = omega (arith, w); high = omega (arith, w); fits = omega (arith, w); first = f; last = λ e. omega (arith, w) }, omega arith)

waiting_packed : (at room : ℕ) (ps : List Packet) → 0 < at → room ≤ 1908 → ArePackets ps → Packed at room (fill_waiting room ps).pieces
waiting_packed at room [] l h a = rw (waiting_none room) l
waiting_packed at room (p ∷ ps) l h a =
    go (dec_le shortest room) (waiting_packed (at + (2 + length p)) (room - (2 + length p)) ps (omega arith) (omega arith) a.1)
  where
    more : Cut
    more = fill_waiting (room - (2 + length p)) ps

    go : Dec (shortest ≤ room) → Packed (at + (2 + length p)) (room - (2 + length p)) more.pieces → Packed at room (fill_waiting room (p ∷ ps)).pieces
    go (yes y) k =
        rw (waiting_front room p ps y)
        (front_packed at room true p ps more (λ e. let z : ◌≡◌ {A = ℕ} 0 1 = cc in absurd (omega arith)) a.0.0 y h k)
    go (no y) k = rw (waiting_full room (p ∷ ps) (omega arith)) l

-- what is left is a queue again
pub fill_queue : (q : Queue) → IsQueue q → IsQueue (fill 1908 q).left
fill_queue q h = rw (fill_cut q h) (cut_queue (load q) q h)

pub fill_packed : (q : Queue) → IsQueue q → busy q ≡ true → Packed 0 1908 (fill 1908 q).pieces
unfolding fill_waiting
fill_packed q h b = go q.rest q.waiting h.0 h.1 b
  where
    go : (rest : Option (List ℕ)) (ps : List Packet) → IsRest rest → ArePackets ps → busy_with rest ps ≡ true → Packed 0 1908 (fill_from 1908 rest ps).pieces
    go none [] k a b = let z : ◌≡◌ {A = ℕ} 0 1 = cc in absurd (omega arith)
    go none (p ∷ ps) k a b =
        front_packed 0 1908 true p ps (fill_waiting (1908 - (2 + length p)) ps) (λ e. refl) a.0.0 (omega arith) (omega arith)
        (waiting_packed (0 + (2 + length p)) (1908 - (2 + length p)) ps (omega arith) (omega arith) a.1)
    go (some r) ps k a b =
        front_packed 0 1908 false r ps (fill_waiting (1908 - (2 + length r)) ps) (λ e. refl) k.0 (omega arith) (omega arith)
        (waiting_packed (0 + (2 + length r)) (1908 - (2 + length r)) ps (omega arith) (omega arith) a)
