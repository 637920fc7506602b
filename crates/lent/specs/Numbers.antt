-- What the code does: a buffer that is written eight bytes at a time. Contracts of functions below the calls cite it.
use Rattle.std.specs.Prelude.{List, [], ◌∷◌, ◌++◌, ℕ}
use Rattle.basics.specs.Numbers.{low_first}

-- the bytes of some numbers of eight bytes, each low byte first
unfoldable pub bytes_of : List ℕ → List ℕ
bytes_of [] = []
bytes_of (number ∷ numbers) = low_first 8 number ++ bytes_of numbers
