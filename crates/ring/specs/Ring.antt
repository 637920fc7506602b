-- A lent buffer used as a ring (02, M-105): its bytes are read and written round from a start, and behind its last byte stands its first. Place by
-- place, with the remainder: `round_stands`, `round_arrives` and `round_keeps` in proofs/Places.antt.
use Rattle.std.specs.Prelude.{List, ◌++◌, ℕ, ◌-◌, length, take, drop}
use Rattle.lent.specs.Written.{written}

-- all bytes, read round from a start
unfoldable pub round_from : ℕ → List ℕ → List ℕ
round_from start buffer = drop start buffer ++ take start buffer

-- the buffer with bytes written round, from `at` bytes behind the start on; all its other bytes keep their values
unfoldable pub ring_written : List ℕ → ℕ → ℕ → List ℕ → List ℕ
ring_written buffer start at bytes = round_from (length buffer - start) (written (round_from start buffer) at bytes)
