-- What the code does: the field's work on several bytes at once, which stand in one number, the first of them the lowest. Contracts of functions below
-- the calls cite it; whoever reads `Field` need not believe anything here.
use Rattle.std.specs.Prelude.{ℕ, zero, suc, ◌+◌, ◌*◌, ◌/◌, ◌%◌, ◌^◌}
use Rattle.field.specs.Field.{times}

-- f of each of the n lowest bytes of a number
unfoldable pub each_byte : (ℕ → ℕ) → ℕ → ℕ → ℕ
each_byte f zero x = 0
each_byte f (suc n) x = each_byte f n (x / 256) * 2 ^ 8 + f (x % 256)

-- each of eight bytes, times the byte a
unfoldable pub times_each : ℕ → ℕ → ℕ
times_each bytes a = each_byte (times a) 8 bytes
