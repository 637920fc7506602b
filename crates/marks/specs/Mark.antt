-- What the code does: the mark of a record as a reader takes it apart (01, "Packing, the bench's own"), and where it may stand. `area_exactly` of demand 2 ties
-- it to the rules, `Allowed` of crate packing, so whoever believes those need not believe anything here.
use Rattle.std.specs.Prelude.{ℕ, ◌+◌, ◌/◌, ◌%◌, Bool, ◌&&◌, ◌||◌, ◌==◌, nat_le}
use Rattle.basics.specs.Sizes.{first_bit, last_bit}

abbrev pub is_first : ℕ → Bool
is_first mark = mark / first_bit % 2 == 1

abbrev pub is_last : ℕ → Bool
is_last mark = mark / last_bit % 2 == 1

abbrev pub length_in : ℕ → ℕ
length_in mark = mark % 2048

-- only the first record may lack "first": it stands at position 0
unfoldable pub may_begin : ℕ → ℕ → Bool
may_begin at mark = at == 0 || is_first mark

-- a record that lacks "last" ends the area; `room` bytes are left in it, with the mark
unfoldable pub may_end : ℕ → ℕ → Bool
may_end room mark = is_last mark || 2 + length_in mark == room

-- Bits 13-11 are zero; the length is at least 1, and as many bytes stand behind the mark.
unfoldable pub is_mark : ℕ → ℕ → ℕ → Bool
is_mark at room mark = mark / 2048 % 8 == 0 && nat_le 1 (length_in mark) && nat_le (2 + length_in mark) room && may_begin at mark && may_end room mark
