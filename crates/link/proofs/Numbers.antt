-- Frame numbers: under the limit on lost frames, a receiver that sees numbers modulo 65,536 answers as one that is told of every lost frame.
use mathlib.Core.Path.{◌≡◌, refl, ap, sym, ◌∙◌}
use mathlib.Core.Bool.{Bool, true, false, cond}
use mathlib.Core.Option.{none, some}
use mathlib.Core.List.{List, [], ◌∷◌}
use Prim.Native.Nat.{ℕ, suc, ◌+◌, ◌%◌, ◌<◌}
use native.Mathlib.Omega.{arith}
use native.Mathlib.Decide.{ℕ_discrete}
use Rattle.link.specs.Link.{Piece, on_pieces, fits, Answer, taken, missed, held_after}
use Rattle.link.proofs.Machine.{Receiver, receive, fresh}
use Rattle.link.specs.Ledger.{Mark, lost, accepted, lost_before, any_before, gap, Limit}
use Rattle.link.proofs.Machine.{deliver}
use Rattle.link.proofs.Reassembly.{told, Fit}

module _ (mark : ℕ → Mark) (limit : Limit mark) where
  -- Frame a was the last accepted one before frame i, and the receiver r expects the next.
  record Since (i : ℕ) (r : Receiver) (h : List ℕ) : Type 0 where
    a : ℕ
    at_i : i ≡ suc (a + lost_before mark i)
    got : mark a ≡ accepted
    none_since : (j : ℕ) → a < j → j < i → mark j ≡ lost
    expects : r.expected ≡ some ((a % 65536 + 1) % 65536)
    holds : held_after (lost_before mark i) r.held ≡ h

  -- The receiver r knows as much as one that was told of every frame before i and holds h; the test: a frame was accepted before.
  abbrev Knows : Bool → ℕ → Receiver → List ℕ → Type 0
  Knows false i r h = (r.expected ≡ none) × (r.held ≡ []) × (h ≡ [])
  Knows true i r h = Since i r h

  module _ (i : ℕ) (r : Receiver) (h : List ℕ) where
    counts : (any : Bool) → Knows any i r h → mark i ≡ accepted → missed r.expected (i % 65536) ≡ cond any (lost_before mark i) 0
    counts false k y = rw k.0
    counts true k y =
        rw k.expects (omega (arith, k.at_i, limit k.a i (omega (arith, k.at_i)) k.got y k.none_since))

    keeps : (any : Bool) → Knows any i r h → held_after (cond any (lost_before mark i) 0) r.held ≡ h
    keeps false k = k.1 ∙ sym k.2
    keeps true k = k.holds

    -- a frame that is lost: its number is missed later
    skips : (any : Bool) → Knows any i r h → mark i ≡ lost → Knows any (suc i) r []
    skips false k y = (k.0, k.1, refl)
    skips true k y = record {
      a = k.a;
      at_i = rw y (omega (arith, k.at_i));
      got = k.got;
      none_since = since;
      expects = k.expects;
      holds = rw y;
    }
      where
        since : (j : ℕ) → k.a < j → j < suc i → mark j ≡ lost
        since j p q = go (ℕ_discrete j i)
          where
            go : Dec (j ≡ i) → mark j ≡ lost
            go (yes e) = rw e y
            go (no e) = k.none_since j p (omega arith)

  -- the state after an accepted frame i with the pieces f, from the held part h
  abbrev state_after : ℕ → List ℕ → List Piece → Receiver
  state_after i h f = record { expected = some ((i % 65536 + 1) % 65536); held = (on_pieces h f).held }

  -- a frame that is accepted: the two give one answer ..
  takes : (i : ℕ) (r : Receiver) (h : List ℕ) (f : List Piece) → Knows (any_before mark i) i r h → mark i ≡ accepted → fits h f ≡ true
      → receive r (i % 65536) f ≡ record { answer = taken (gap mark i) (on_pieces h f).out; state = state_after i h f }
  unfolding receive
  takes i r h f k y e = rw (counts i r h (any_before mark i) k y, keeps i r h (any_before mark i) k, e)

  -- .. and stay together
  goes_on : (i : ℕ) (h : List ℕ) (f : List Piece) → mark i ≡ accepted → Since (suc i) (state_after i h f) (on_pieces h f).held
  goes_on i h f y = record { a = i; at_i = rw y (omega arith); got = y; none_since = λ j p q. absurd (omega arith); expects = refl; holds = rw y }

  same_from : (i : ℕ) (r : Receiver) (h : List ℕ) (fs : List (List Piece)) → Knows (any_before mark i) i r h → Fit mark i h fs
      → deliver mark i r fs ≡ told mark i h fs
  same_from i r h [] k f = refl
  same_from i r h (ps ∷ fs) k f = go (mark i) refl (λ r' h'. same_from (suc i) r' h' fs)
    where
      go : (m : Mark) → mark i ≡ m
          → ((r' : Receiver) (h' : List ℕ) → Knows (any_before mark (suc i)) (suc i) r' h' → Fit mark (suc i) h' fs
          → deliver mark (suc i) r' fs ≡ told mark (suc i) h' fs)
          → deliver mark i r (ps ∷ fs) ≡ told mark i h (ps ∷ fs)
      go lost e ih = rw e (ih r [] (rw e (skips i r h (any_before mark i) k e)) (rw e at f.1))
      go accepted e ih = rw (e, takes i r h ps k e (f.0 e)) (ap (λ (l : List Answer). taken (gap mark i) (on_pieces h ps).out ∷ l)
          (ih (state_after i h ps) (on_pieces h ps).held (rw e (goes_on i h ps e)) (rw e at f.1)))

  pub same : (fs : List (List Piece)) → Fit mark 0 [] fs → deliver mark 0 fresh fs ≡ told mark 0 [] fs
  same fs f = same_from 0 fresh [] fs (refl, refl, refl) f
