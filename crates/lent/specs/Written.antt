-- A lent buffer after a write: the one way in which the crates above change a buffer.
use Rattle.std.specs.Prelude.{List, ◌++◌, ℕ, ◌+◌, length, take, drop}

-- a buffer with the bytes s written into it from index at on; all its other bytes keep their values
unfoldable pub written : List ℕ → ℕ → List ℕ → List ℕ
written buffer at s = take at buffer ++ s ++ drop (at + length s) buffer
