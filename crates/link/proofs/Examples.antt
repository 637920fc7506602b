-- A worked run, computed, with a loss: demand 3 speaks of runs that matter. And what the limit on lost frames is for.
use mathlib.Core.Path.{◌≡◌, refl, sym, ◌∙◌}
use mathlib.Core.Bool.{Bool, true, false, cond}
use mathlib.Core.Option.{some}
use mathlib.Core.List.{List, [], ◌∷◌, map, append-nil}
use Prim.Native.Nat.{ℕ, ◌+◌, ◌-◌, ◌%◌, ◌≤◌, ◌<◌}
use native.Mathlib.Omega.{arith}
use native.Mathlib.Decide.{dec_le}
use lib.Dec.{eqb}
use borrow.Author.Tests.{eqb-true}
use Rattle.link.specs.Link.{ArePackets, Queue, empty, Piece, taken}
use Rattle.link.proofs.Machine.{Call, put, next, puts_of, frames_of, queue_after, Receiver, receive, fresh, deliver}
use Rattle.link.specs.Ledger.{ledger, unsent, Mark, lost, accepted, Limit}
use Rattle.link.specs.Demand3.{packet_of, Demand3}
use Rattle.link.proofs.Demand3.{demand3}

-- Each frame takes two bytes. Packets of 3, 2, 2 and 2 bytes are put, and four frames are built: the last packet is begun and not ended.
abbrev two : Queue → ℕ
two queue = 2

abbrev calls : List Call
calls = put (1 ∷ 2 ∷ 3 ∷ []) ∷ put (4 ∷ 5 ∷ []) ∷ next ∷ next ∷ put (6 ∷ 7 ∷ []) ∷ put (8 ∷ 9 ∷ []) ∷ next ∷ next ∷ []

abbrev frames : List (List Piece)
frames = frames_of two empty calls

lines : ledger frames ≡ record { packet = 1 ∷ 2 ∷ 3 ∷ []; from = 0; to = 1 } ∷ record { packet = 4 ∷ 5 ∷ []; from = 1; to = 2 }
    ∷ record { packet = 6 ∷ 7 ∷ []; from = 2; to = 3 } ∷ []
lines = refl

begun : unsent frames (queue_after two empty calls) ≡ (8 ∷ 9 ∷ []) ∷ []
begun = refl

-- Frame 1 is lost, and two packets have a piece in it. The last piece of the second comes, in frame 2, and is not joined to what was held.
abbrev one_lost : ℕ → Mark
one_lost i = cond (eqb i 1) lost accepted

one_lost_lem : deliver one_lost 0 fresh frames ≡ taken 0 [] ∷ taken 1 [] ∷ taken 0 ((6 ∷ 7 ∷ []) ∷ []) ∷ []
unfolding receive
one_lost_lem = refl

-- This run is one of those that demand 3 is proved of.
only_one : (i : ℕ) → one_lost i ≡ lost → i ≡ 1
only_one i e = go (eqb i 1) refl e
  where
    go : (b : Bool) → eqb i 1 ≡ b → cond b lost accepted ≡ lost → i ≡ 1
    go true t e = eqb-true i 1 t
    go false t e = let z : ◌≡◌ {A = ℕ} 0 1 = cc in absurd (omega arith)

within : Limit one_lost
within a b h p q l = go (dec_le (b - a) 65536)
  where
    go : Dec (b - a ≤ 65536) → b - a - 1 < 65536
    go (yes y) = omega arith
    go (no y) = absurd (omega (arith, only_one (a + 1) (l (a + 1) (omega arith) (omega arith)), only_one (a + 2) (l (a + 2) (omega arith) (omega arith))))

meets : Demand3 (puts_of calls) frames (queue_after two empty calls) one_lost (deliver one_lost 0 fresh frames)
meets = demand3 two calls one_lost (omega arith) within

-- Of every run in which all is sent: the ledger has the packets put, in their order.
all_in_turn : (load : Queue → ℕ) (run : List Call) (mark : ℕ → Mark) → ArePackets (puts_of run) → Limit mark
    → unsent (frames_of load empty run) (queue_after load empty run) ≡ [] → map packet_of (ledger (frames_of load empty run)) ≡ puts_of run
all_in_turn load run mark allowed limit e =
    sym (append-nil (map packet_of (ledger (frames_of load empty run)))) ∙ rw e at (demand3 load run mark allowed limit).in_order

-- After frame 0 with a first piece, 65,535 lost frames are seen ..
abbrev holding : Receiver
holding = record { expected = some 1; held = 7 ∷ [] }

seen : (receive holding (65536 % 65536) (record { first = false; last = true; bytes = 8 ∷ [] } ∷ [])).answer ≡ taken 65535 []
unfolding receive
seen = refl

-- .. and 65,536 are not: two packets would be joined. So the limit is needed, and could not be wider.
unseen : (receive holding (65537 % 65536) (record { first = false; last = true; bytes = 8 ∷ [] } ∷ [])).answer ≡ taken 0 ((7 ∷ 8 ∷ []) ∷ [])
unfolding receive
unseen = refl
