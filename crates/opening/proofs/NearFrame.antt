-- The bytes of a near frame that differ stand behind the preamble; a frame is near itself.
use mathlib.Core.Path.{◌≡◌, refl, sym, ap, ap₂, ◌∙◌}
use mathlib.Core.List.{List}
use Prim.Native.Nat.{ℕ, ◌+◌}
use native.Mathlib.Nat.{zero-add}
use lib.ListN.{length, take, drop, take-append-drop}
use Rattle.nearest.specs.Near.{differences}
use Rattle.nearest.proofs.Nearness.{differences_self}
use Rattle.repairing.proofs.Differences.{differ_append}
use Rattle.repairing.proofs.Coded.{near_itself}
use Rattle.opening.specs.NearFrame.{NearFrame}

pub behind_wrong : (came sent : List ℕ) → NearFrame came sent → differences came sent ≡ differences (drop 9 came) (drop 9 sent)
behind_wrong came sent near =
    ap₂ differences (sym (take-append-drop 9 came)) (sym (take-append-drop 9 sent))
    ∙ differ_append (take 9 came) (drop 9 came) (take 9 sent) (drop 9 sent) (ap length near.preamble_same)
    ∙ ap (λ (n : ℕ). n + differences (drop 9 came) (drop 9 sent))
    (ap (λ (l : List ℕ). differences l (take 9 sent)) near.preamble_same ∙ differences_self (take 9 sent))
    ∙ zero-add (differences (drop 9 came) (drop 9 sent))

-- a frame that comes as it was sent
pub near_own : (frame : List ℕ) → length frame ≡ 2081 → NearFrame frame frame
near_own frame long = record { long = long; preamble_same = refl; behind_near = near_itself (drop 9 frame) }
