-- The blocks of the demonstration: each begins with its number, high byte first, and every further byte follows from the number and its place.
use Rattle.std.specs.Prelude.{cond, List, ℕ, ◌+◌, ◌*◌, ◌/◌, ◌%◌, eqb, leb, length, get_or}

-- how many bytes a block has
abbrev pub length_of : ℕ → ℕ
length_of number = 50 + number * 1237 % 4300

-- the byte at a place of a block
unfoldable pub sample_of : ℕ → ℕ → ℕ
sample_of number place = cond (eqb place 0) (number / 256) (cond (eqb place 1) (number % 256) ((number * 31 + place % 256 * 7) % 256))

-- the number that a packet begins with; 0 where it is too short for one
unfoldable pub number_in : List ℕ → ℕ
number_in packet = cond (leb 2 (length packet)) (get_or packet 0 0 * 256 + get_or packet 1 0) 0
