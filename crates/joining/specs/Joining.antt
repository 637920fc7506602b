-- What the code does with the records of a DATA area that is not refused: the contract of the loop that joins them, over `StepOutcome` of Growing.
-- Whoever reads `ApplyOutcome` of crate receiver need not believe anything here.
use Rattle.std.specs.Prelude.{◌≡◌, true, List, ℕ, ◌≤◌, length, take}
use Rattle.std.proofs.Math.Option.{some}
use Rattle.basics.specs.Sizes.{most_held, hold_size, list_size}
use Rattle.link.specs.Link.{Piece, fits, on_pieces}
use Rattle.packing.specs.Records.{read}
use Rattle.joining.specs.declared.growing.Joined.{Joined}
use Rattle.joining.specs.Growing.{StepOutcome}

-- before the first record: so much is held, and no packet is listed
abbrev pub unjoined : ℕ → Joined
unjoined held = record { held = held; packets = 0; listed = 0 }

-- The area is read, its first record fits the `held` bytes of the hold, and the lent bytes have their sizes.
pub record Joinable (area : List ℕ) (held : ℕ) (hold list : List ℕ) : Type 0 where
  pub pieces : List Piece
  pub whole : read area ≡ some pieces
  pub fitting : fits (take held hold) pieces ≡ true
  pub low : held ≤ most_held
  pub long : length hold ≡ hold_size
  pub room : list_size ≤ length list

-- the pieces that stand in the area have done what they do
abbrev pub JoinOutcome : List ℕ → ℕ → List ℕ → List ℕ → Joined → List ℕ → List ℕ → Type 0
JoinOutcome area held hold list r hold' list' =
    (pieces : List Piece) → read area ≡ some pieces → StepOutcome (on_pieces (take held hold) pieces) (unjoined held) hold list r hold' list'
