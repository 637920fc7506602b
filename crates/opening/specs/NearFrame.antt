-- A frame as it may arrive and still be opened (02, M-101): "with at most 8 wrong bytes in the header and in each payload word, the preamble intact".
use Rattle.std.specs.Prelude.{◌≡◌, List, ℕ, length, take, drop}
use Rattle.basics.specs.Sizes.{frame_size}
use Rattle.repairing.specs.NearPart.{NearPart}

-- what came of a frame that was sent
pub record NearFrame (came sent : List ℕ) : Type 0 where
  pub long : length came ≡ frame_size
  pub preamble_same : take 9 came ≡ take 9 sent
  pub behind_near : NearPart (drop 9 came) (drop 9 sent)
