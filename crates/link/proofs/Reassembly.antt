-- The reassembly law: for any frames whose pieces are not empty, a receiver that is told of every frame sent, in order, whether it was lost or accepted,
-- puts out the packets that demand 3 says. No frame number is in it, and no sender.
use mathlib.Core.Path.{◌≡◌, refl, ap}
use mathlib.Core.Bool.{Bool, true, false, cond}
use mathlib.Core.Option.{Option, none, some}
use mathlib.Core.List.{List, [], ◌∷◌, ◌++◌}
use Prim.Native.Nat.{ℕ, suc, ◌≤◌, ◌<◌}
use native.Mathlib.Nat.{le_refl}
use native.Mathlib.Omega.{arith}
use lib.ListN.{length, length-append}
use Rattle.link.specs.Link.{Packet, Piece, Step, on_piece, on_pieces, fits, Answer, taken}
use Rattle.link.specs.Ledger.{Line, Begun, Traced, trace_piece, trace_frame, trace, sent_of, Mark, lost, accepted, by_mark, unbroken, came, gap, gaps}
use Rattle.link.specs.Demand3.{AllTaken, packets_of, missed_of}
use Rattle.link.proofs.Marks.{unbroken_accepted, unbroken_lost, unbroken_here}

-- A packet that is begun has some bytes sent, the first of them in a frame up to i.
abbrev pub BegunBy : ℕ → Option Begun → Type 0
BegunBy i none = Unit {0}
BegunBy i (some g) = (g.from ≤ i) × (0 < length g.sent)

-- No piece is empty.
abbrev pub Filled : List Piece → Type 0
Filled [] = Unit {0}
Filled (p ∷ ps) = (0 < length p.bytes) × Filled ps

abbrev pub AllFilled : List (List Piece) → Type 0
AllFilled [] = Unit {0}
AllFilled (f ∷ fs) = Filled f × AllFilled fs

piece_begun : (i : ℕ) (o : Option Begun) (first last : Bool) (b : List ℕ) → BegunBy i o → 0 < length b → BegunBy i (trace_piece i o first last b).begun
piece_begun i o true true b h k = tt
piece_begun i o true false b h k = omega arith
piece_begun i none false last b h k = tt
piece_begun i (some g) false true b h k = tt
piece_begun i (some g) false false b h k = simp length-append (omega (arith, h.0))

later : (i : ℕ) (o : Option Begun) → BegunBy i o → BegunBy (suc i) o
later i none h = tt
later i (some g) h = omega (arith, h.0)

after_frame : (i : ℕ) (o : Option Begun) (ps : List Piece) → BegunBy i o → Filled ps → BegunBy (suc i) (trace_frame i o ps).begun
after_frame i o [] h k = later i o h
after_frame i o (p ∷ ps) h k =
    after_frame i (trace_piece i o p.first p.last p.bytes).begun ps (piece_begun i o p.first p.last p.bytes h k.0) k.1

-- Each frame fits what a receiver holds that lost nothing.
abbrev pub AllFit : ℕ → Option Begun → List (List Piece) → Type 0
AllFit i o [] = Unit {0}
AllFit i o (f ∷ fs) = (fits (sent_of o) f ≡ true) × AllFit (suc i) (trace_frame i o f).begun fs

pub fits_nil : (f : List Piece) → fits [] f ≡ true
fits_nil [] = refl
fits_nil (p ∷ ps) = refl

module _ (mark : ℕ → Mark) where
  -- What is held before frame i: the bytes sent of the packet that is begun, if every frame since its first piece was accepted.
  abbrev pub kept : ℕ → Option Begun → List ℕ
  kept i none = []
  kept i (some g) = cond (unbroken mark g.from i) g.sent []

  came_append : (a b : List Line) → came mark (a ++ b) ≡ came mark a ++ came mark b
  came_append [] b = refl
  came_append (l ∷ a) b = go (unbroken mark l.from (suc l.to)) (came_append a b)
    where
      go : (u : Bool) → came mark (a ++ b) ≡ came mark a ++ came mark b
          → cond u (l.packet ∷ came mark (a ++ b)) (came mark (a ++ b)) ≡ cond u (l.packet ∷ came mark a) (came mark a) ++ came mark b
      go true r = ap (λ (ps : List Packet). l.packet ∷ ps) r
      go false r = r

  -- ---- an accepted frame i: within it, `kept (suc i)` is what is held between two pieces

  record Good (i : ℕ) (s : Step) (t : Traced) : Type 0 where
    held : s.held ≡ kept (suc i) t.begun
    out : s.out ≡ came mark t.lines

  module _ (i : ℕ) (got : mark i ≡ accepted) where
    joined : (g : Begun) (h : List ℕ) → 0 < length h → (last : Bool) (b : List ℕ) (u : Bool) → unbroken mark g.from (suc i) ≡ u
        → Good i (on_piece (cond u h []) false last b) (trace_piece i (some (record { from = g.from; sent = h })) false last b)
    joined g [] n last b u e = absurd (omega arith)
    joined g (x ∷ h) n true b true e = record { held = refl; out = rw e }
    joined g (x ∷ h) n true b false e = record { held = refl; out = rw e }
    joined g (x ∷ h) n false b true e = record { held = rw e; out = refl }
    joined g (x ∷ h) n false b false e = record { held = rw e; out = refl }

    piece_good : (o : Option Begun) (first last : Bool) (b : List ℕ) → BegunBy i o
        → Good i (on_piece (kept (suc i) o) first last b) (trace_piece i o first last b)
    piece_good o true true b h = record { held = refl; out = rw (unbroken_here mark i got) }
    piece_good o true false b h = record { held = rw (unbroken_here mark i got); out = refl }
    piece_good none false last b h = record { held = refl; out = refl }
    piece_good (some g) false true b h = joined g g.sent h.1 true b (unbroken mark g.from (suc i)) refl
    piece_good (some g) false false b h = joined g g.sent h.1 false b (unbroken mark g.from (suc i)) refl

    pieces_good : (o : Option Begun) (ps : List Piece) → BegunBy i o → Filled ps → Good i (on_pieces (kept (suc i) o) ps) (trace_frame i o ps)
    pieces_good o [] h k = record { held = refl; out = refl }
    pieces_good o (p ∷ ps) h k =
        let t = trace_piece i o p.first p.last p.bytes in
        let g = piece_good o p.first p.last p.bytes h in
        let r = pieces_good t.begun ps (piece_begun i o p.first p.last p.bytes h k.0) k.1 in
        record { held = rw g.held r.held; out = rw (came_append, g.out, g.held, r.out) }

    kept_accepted : (o : Option Begun) → kept (suc i) o ≡ kept i o
    kept_accepted none = refl
    kept_accepted (some g) = rw (unbroken_accepted mark g.from i got)

    frame_good : (o : Option Begun) (ps : List Piece) → BegunBy i o → Filled ps → Good i (on_pieces (kept i o) ps) (trace_frame i o ps)
    frame_good o ps h k = rw kept_accepted at (pieces_good o ps h k)

  -- ---- a lost frame i: no packet with a piece in it comes out

  record Gone (i : ℕ) (t : Traced) : Type 0 where
    held : kept (suc i) t.begun ≡ []
    out : came mark t.lines ≡ []

  module _ (i : ℕ) (missing : mark i ≡ lost) where
    here : unbroken mark i (suc i) ≡ false
    here = unbroken_lost mark i i (le_refl i) missing

    piece_gone : (o : Option Begun) (first last : Bool) (b : List ℕ) → BegunBy i o → Gone i (trace_piece i o first last b)
    piece_gone o true true b h = record { held = refl; out = rw here }
    piece_gone o true false b h = record { held = rw here; out = refl }
    piece_gone none false last b h = record { held = refl; out = refl }
    piece_gone (some g) false true b h = record { held = refl; out = rw (unbroken_lost mark g.from i h.0 missing) }
    piece_gone (some g) false false b h = record { held = rw (unbroken_lost mark g.from i h.0 missing); out = refl }

    kept_lost : (o : Option Begun) → BegunBy i o → kept (suc i) o ≡ []
    kept_lost none h = refl
    kept_lost (some g) h = rw (unbroken_lost mark g.from i h.0 missing)

    frame_gone : (o : Option Begun) (ps : List Piece) → BegunBy i o → Filled ps → Gone i (trace_frame i o ps)
    frame_gone o [] h k = record { held = kept_lost o h; out = refl }
    frame_gone o (p ∷ ps) h k =
        let t = trace_piece i o p.first p.last p.bytes in
        let g = piece_gone o p.first p.last p.bytes h in
        let r = frame_gone t.begun ps (piece_begun i o p.first p.last p.bytes h k.0) k.1 in
        record { held = r.held; out = rw (came_append, g.out, r.out) }

  -- ---- all frames

  -- The answers of a receiver that is told of every frame and holds h before frame i.
  abbrev pub told : ℕ → List ℕ → List (List Piece) → List Answer
  told i h [] = []
  told i h (f ∷ fs) = by_mark (mark i)
      (told (suc i) [] fs)
      (taken (gap mark i) (on_pieces h f).out ∷ told (suc i) (on_pieces h f).held fs)

  -- The reassembly law.
  pub right : (i : ℕ) (o : Option Begun) (fs : List (List Piece)) → BegunBy i o → AllFilled fs
      → packets_of (told i (kept i o) fs) ≡ came mark (trace i o fs).lines
  right i o [] h k = refl
  right i o (f ∷ fs) h k = go (mark i) refl (right (suc i) (trace_frame i o f).begun fs (after_frame i o f h k.0) k.1)
    where
      go : (m : Mark) → mark i ≡ m
          → packets_of (told (suc i) (kept (suc i) (trace_frame i o f).begun) fs) ≡ came mark (trace (suc i) (trace_frame i o f).begun fs).lines
          → packets_of (told i (kept i o) (f ∷ fs)) ≡ came mark (trace i o (f ∷ fs)).lines
      go lost e r = let g = frame_gone i e o f h k.0 in rw (e, came_append, g.out, ← g.held) r
      go accepted e r = let g = frame_good i e o f h k.0 in rw (e, came_append, g.held, g.out, r)

  -- Each accepted frame fits what that receiver holds, so that it is not refused with 15.
  abbrev pub Fit : ℕ → List ℕ → List (List Piece) → Type 0
  Fit i h [] = Unit {0}
  Fit i h (f ∷ fs) = (mark i ≡ accepted → fits h f ≡ true) × Fit (suc i) (by_mark (mark i) [] (on_pieces h f).held) fs

  fits_kept : (i : ℕ) (o : Option Begun) (f : List Piece) → fits (sent_of o) f ≡ true → fits (kept i o) f ≡ true
  fits_kept i none f e = e
  fits_kept i (some g) f e = go (unbroken mark g.from i)
    where
      go : (u : Bool) → fits (cond u g.sent []) f ≡ true
      go true = e
      go false = fits_nil f

  pub fit : (i : ℕ) (o : Option Begun) (fs : List (List Piece)) → BegunBy i o → AllFilled fs → AllFit i o fs → Fit i (kept i o) fs
  fit i o [] h k a = tt
  fit i o (f ∷ fs) h k a = (λ e. fits_kept i o f a.0, go (mark i) refl (fit (suc i) (trace_frame i o f).begun fs (after_frame i o f h k.0) k.1 a.1))
    where
      go : (m : Mark) → mark i ≡ m → Fit (suc i) (kept (suc i) (trace_frame i o f).begun) fs → Fit (suc i) (by_mark (mark i) [] (on_pieces (kept i o) f).held) fs
      go lost e r = rw (e, ← (frame_gone i e o f h k.0).held) r
      go accepted e r = rw (e, (frame_good i e o f h k.0).held) r

  -- ---- what else that receiver answers

  pub told_taken : (i : ℕ) (h : List ℕ) (fs : List (List Piece)) → AllTaken (told i h fs)
  told_taken i h [] = tt
  told_taken i h (f ∷ fs) = go (mark i) refl (λ h'. told_taken (suc i) h' fs)
    where
      go : (m : Mark) → mark i ≡ m → ((h' : List ℕ) → AllTaken (told (suc i) h' fs)) → AllTaken (told i h (f ∷ fs))
      go lost e r = rw e (r [])
      go accepted e r = rw e (r (on_pieces h f).held)

  pub told_missed : (i : ℕ) (h : List ℕ) (fs : List (List Piece)) → missed_of (told i h fs) ≡ gaps mark i (length fs)
  told_missed i h [] = refl
  told_missed i h (f ∷ fs) = go (mark i) refl (λ h'. told_missed (suc i) h' fs)
    where
      go : (m : Mark) → mark i ≡ m → ((h' : List ℕ) → missed_of (told (suc i) h' fs) ≡ gaps mark (suc i) (length fs))
          → missed_of (told i h (f ∷ fs)) ≡ gaps mark i (length (f ∷ fs))
      go lost e r = rw e (r [])
      go accepted e r = rw e (ap (λ (l : List ℕ). gap mark i ∷ l) (r (on_pieces h f).held))
