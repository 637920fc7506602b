-- Parts of 2,072 bytes behind a preamble that are coded, and parts that are near one another (02, M-101): with at most 8 wrong bytes in the header and in each
-- payload word.
use Rattle.std.specs.Prelude.{◌≡◌, true, List, ℕ, ◌≤◌, ◌<◌, length, take, drop}
use Rattle.basics.specs.Lists.{Bytes}
use Rattle.reed_solomon.specs.Code.{is_codeword, lengthened}
use Rattle.reed_solomon.specs.Payload.{every_eighth, are_codewords}
use Rattle.nearest.specs.Near.{differences}

-- unscrambled: a coded header of 32 bytes, with the zeros that are not sent, and then a payload of eight codewords
pub record Coded (body : List ℕ) : Type 0 where
  pub bytes : Bytes body
  pub long : length body ≡ 2072
  pub header : is_codeword (lengthened (take 32 body)) ≡ true
  pub words : are_codewords (drop 32 body) ≡ true

-- what came, and what was sent; scrambled alike, they differ where they would unscrambled
pub record NearPart (came sent : List ℕ) : Type 0 where
  pub header_near : differences (take 32 came) (take 32 sent) ≤ 8
  pub each_near : (k : ℕ) → k < 8 → differences (every_eighth 255 k (drop 32 came)) (every_eighth 255 k (drop 32 sent)) ≤ 8
