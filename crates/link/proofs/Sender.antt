-- What a frame takes from the queue, against the ledger that is read off the frames: no packet is lost or changed, no piece is empty, each frame fits.
use mathlib.Core.Path.{◌≡◌, refl, ap, sym, ◌∙◌}
use mathlib.Core.Bool.{Bool, true, false, cond}
use mathlib.Core.Option.{Option, none, some}
use mathlib.Core.List.{List, [], ◌∷◌, ◌++◌, map, append_assoc, append-nil, map-append}
use Prim.Native.Nat.{ℕ, zero, suc, ◌+◌, ◌-◌, ◌≤◌, ◌<◌}
use native.Mathlib.Omega.{arith}
use lib.ListN.{length, take, length-take, length-drop, length-append, take-append-drop}
use lib.Dec.{leb}
use borrow.Author.Tests.{leb-false, le-leb}
use Rattle.link.specs.Link.{Packet, IsPacket, ArePackets, Queue, IsRest, IsQueue, Cut, piece_then, most_joined, fits}
use Rattle.link.proofs.Machine.{with_packet, cut_packet, cut_waiting, cut_rest, cut_from, cut, Call, put, next, puts_of, frames_of, queue_after}
use Rattle.link.specs.Ledger.{Begun, trace_frame, trace, sent_of, unsent_from}
use Rattle.link.specs.Demand3.{packet_of}
use Rattle.link.proofs.Reassembly.{Filled, AllFilled, AllFit, fits_nil}

-- What is begun in the ledger after frames up to i, and what rests of it in the queue: both or neither, and together at most 9,000 bytes.
abbrev pub Tied : ℕ → Option Begun → Option (List ℕ) → Type 0
Tied i none none = Unit {0}
Tied i none (some r) = ⊥
Tied i (some g) none = ⊥
Tied i (some g) (some r) = (g.from ≤ i) × (0 < length g.sent) × (0 < length r) × (length g.sent + length r ≤ 9000)

-- Frame i, cut from a queue with the packets `all` not wholly sent, o begun.
pub record Sends (i : ℕ) (o : Option Begun) (all : List Packet) (c : Cut) : Type 0 where
  pub filled : Filled c.pieces
  pub tied : Tied i (trace_frame i o c.pieces).begun c.left.rest
  pub packets : ArePackets c.left.waiting
  pub ordered : map packet_of (trace_frame i o c.pieces).lines ++ unsent_from (trace_frame i o c.pieces).begun c.left.rest c.left.waiting ≡ all

packet_sends : (i n : ℕ) (p : Packet) (ps : List Packet) → n < length p → length p ≤ 9000 → ArePackets ps → Sends i none (p ∷ ps) (cut_packet n p ps)
packet_sends i zero p ps l k h = record { filled = tt; tied = tt; packets = ((l, k), h); ordered = refl }
packet_sends i (suc n) p ps l k h = record {
  filled = (simp length-take (omega arith), tt);
  tied = simp (length-take, length-drop) (omega arith);
  packets = h;
  ordered = rw take-append-drop;
}

waiting_sends : (i n : ℕ) (ps : List Packet) → ArePackets ps → Sends i none ps (cut_waiting n ps)
waiting_sends i n [] h = record { filled = tt; tied = tt; packets = tt; ordered = refl }
waiting_sends i n (p ∷ ps) h = go (leb (length p) n) refl (waiting_sends i (n - length p) ps h.1)
  where
    go : (b : Bool) → leb (length p) n ≡ b → Sends i none ps (cut_waiting (n - length p) ps)
        → Sends i none (p ∷ ps) (cond b (piece_then (record { first = true; last = true; bytes = p }) (cut_waiting (n - length p) ps)) (cut_packet n p ps))
    go true e r = record { filled = (h.0.0, r.filled); tied = r.tied; packets = r.packets; ordered = ap (λ (l : List Packet). p ∷ l) r.ordered }
    go false e r = packet_sends i n p ps (leb-false (length p) n e) h.0.1 h.1

rest_sends : (i n : ℕ) (g : Begun) (r : List ℕ) (ps : List Packet) → n < length r → Tied i (some g) (some r) → ArePackets ps
    → Sends i (some g) ((g.sent ++ r) ∷ ps) (cut_rest n r ps)
rest_sends i zero g r ps l k h = record { filled = tt; tied = k; packets = h; ordered = refl }
rest_sends i (suc n) g r ps l k h = record {
  filled = (simp length-take (omega arith), tt);
  tied = simp (length-append, length-take, length-drop) (omega (arith, k.0, k.1, k.2, k.3));
  packets = h;
  ordered = rw (append_assoc, take-append-drop);
}

pub cut_sends : (i n : ℕ) (o : Option Begun) (rest : Option (List ℕ)) (ps : List Packet) → Tied i o rest → ArePackets ps
    → Sends i o (unsent_from o rest ps) (cut_from n rest ps)
cut_sends i n none none ps k h = waiting_sends i n ps h
cut_sends i n none (some r) ps k h = absurd k
cut_sends i n (some g) none ps k h = absurd k
cut_sends i n (some g) (some r) ps k h = go (leb (length r) n) refl (waiting_sends i (n - length r) ps h)
  where
    go : (b : Bool) → leb (length r) n ≡ b → Sends i none ps (cut_waiting (n - length r) ps)
        → Sends i (some g) ((g.sent ++ r) ∷ ps) (cond b
        (piece_then (record { first = false; last = true; bytes = r }) (cut_waiting (n - length r) ps))
        (cut_rest n r ps))
    go true e s = record {
      filled = (k.2, s.filled);
      tied = s.tied;
      packets = s.packets;
      ordered = ap (λ (l : List Packet). (g.sent ++ r) ∷ l) s.ordered;
    }
    go false e s = rest_sends i n g r ps (leb-false (length r) n e) k h

-- ---- each frame fits what a receiver holds that lost nothing: refusal 15 is never given

rest_fits : (n x : ℕ) (d r : List ℕ) (ps : List Packet) → n < length r → length (x ∷ d) + length r ≤ 9000 → fits (x ∷ d) (cut_rest n r ps).pieces ≡ true
rest_fits zero x d r ps l k = refl
rest_fits (suc n) x d r ps l k = le-leb (length (x ∷ d) + length (take (suc n) r)) (most_joined false) (simp length-take (omega arith))

joined_fits : (n : ℕ) (h r : List ℕ) (ps : List Packet) → length h + length r ≤ 9000 → fits h (cut_from n (some r) ps).pieces ≡ true
joined_fits n [] r ps k = fits_nil (cut_from n (some r) ps).pieces
joined_fits n (x ∷ d) r ps k = go (leb (length r) n) refl
  where
    go : (b : Bool) → leb (length r) n ≡ b → fits (x ∷ d) (cond b
        (piece_then (record { first = false; last = true; bytes = r }) (cut_waiting (n - length r) ps))
        (cut_rest n r ps)).pieces ≡ true
    go true e = le-leb (length (x ∷ d) + length r) (most_joined true) k
    go false e = rest_fits n x d r ps (leb-false (length r) n e) k

cut_fits : (i n : ℕ) (o : Option Begun) (rest : Option (List ℕ)) (ps : List Packet) → Tied i o rest → fits (sent_of o) (cut_from n rest ps).pieces ≡ true
cut_fits i n none rest ps k = fits_nil (cut_from n rest ps).pieces
cut_fits i n (some g) none ps k = absurd k
cut_fits i n (some g) (some r) ps k = joined_fits n g.sent r ps k.3

-- ---- all calls

tied_later : (i : ℕ) (o : Option Begun) (rest : Option (List ℕ)) → Tied i o rest → Tied (suc i) o rest
tied_later i none none k = tt
tied_later i none (some r) k = k
tied_later i (some g) none k = k
tied_later i (some g) (some r) k = (omega (arith, k.0), k.1, k.2, k.3)

packets_put_lem : (ps : List Packet) (p : Packet) → ArePackets ps → IsPacket p → ArePackets (ps ++ (p ∷ []))
packets_put_lem [] p h k = (k, tt)
packets_put_lem (q ∷ ps) p h k = (h.0, packets_put_lem ps p h.1 k)

unsent_put : (o : Option Begun) (rest : Option (List ℕ)) (ps : List Packet) (p : Packet) → unsent_from o rest (ps ++ (p ∷ [])) ≡ unsent_from o rest ps ++ (p ∷ [])
unsent_put o none ps p = refl
unsent_put o (some r) ps p = refl

module _ (load : Queue → ℕ) where
  pub record Run (i : ℕ) (o : Option Begun) (q : Queue) (calls : List Call) : Type 0 where
    pub filled : AllFilled (frames_of load q calls)
    pub fit : AllFit i o (frames_of load q calls)
    pub ordered : map packet_of (trace i o (frames_of load q calls)).lines
        ++ unsent_from (trace i o (frames_of load q calls)).begun (queue_after load q calls).rest (queue_after load q calls).waiting
        ≡ unsent_from o q.rest q.waiting ++ puts_of calls

  pub run : (i : ℕ) (o : Option Begun) (q : Queue) (calls : List Call) → Tied i o q.rest → ArePackets q.waiting
      → ArePackets (puts_of calls) → Run i o q calls
  run i o q [] k h a = record { filled = tt; fit = tt; ordered = sym (append-nil (unsent_from o q.rest q.waiting)) }
  run i o q (put p ∷ calls) k h a =
      let r = run i o (with_packet q p) calls k (packets_put_lem q.waiting p h a.0) a.1 in
      record { filled = r.filled; fit = r.fit; ordered = r.ordered ∙ rw (unsent_put, append_assoc) }
  run i o q (next ∷ calls) k h a =
      let c = cut (load q) q in
      let s = cut_sends i (load q) o q.rest q.waiting k h in
      let t = trace_frame i o c.pieces in
      let r = run (suc i) t.begun c.left calls (tied_later i t.begun c.left.rest s.tied) s.packets a in
      record {
        filled = (s.filled, r.filled);
        fit = (cut_fits i (load q) o q.rest q.waiting k, r.fit);
        ordered = rw (map-append, append_assoc, r.ordered, ← append_assoc, s.ordered);
      }

-- ---- a sender's queue stays one

pub put_queue : (q : Queue) (p : Packet) → IsQueue q → IsPacket p → IsQueue (with_packet q p)
put_queue q p h k = (h.0, packets_put_lem q.waiting p h.1 k)

tied_rest : (i : ℕ) (o : Option Begun) (rest : Option (List ℕ)) → Tied i o rest → IsRest rest
tied_rest i none none k = tt
tied_rest i none (some r) k = absurd k
tied_rest i (some g) none k = absurd k
tied_rest i (some g) (some r) k = omega (arith, k.1, k.2, k.3)

sends_queue : (o : Option Begun) (all : List Packet) (c : Cut) → Sends 0 o all c → IsQueue c.left
sends_queue o all c s = (tied_rest 0 (trace_frame 0 o c.pieces).begun c.left.rest s.tied, s.packets)

pub cut_queue : (n : ℕ) (q : Queue) → IsQueue q → IsQueue (cut n q).left
cut_queue n q h = go q.rest h.0
  where
    go : (rest : Option (List ℕ)) → IsRest rest → IsQueue (cut_from n rest q.waiting).left
    go none k = sends_queue none q.waiting (cut_from n none q.waiting) (cut_sends 0 n none none q.waiting tt h.1)
    -- as if one byte had been sent
    go (some r) k =
        let g : Begun = record { from = 0; sent = 0 ∷ [] } in
        sends_queue (some g) ((0 ∷ r) ∷ q.waiting) (cut_from n (some r) q.waiting)
        (cut_sends 0 n (some g) (some r) q.waiting (omega (arith, k.0, k.1)) h.1)
