-- Powers of any byte, and what divides by it. Contracts of functions below the calls cite it; whoever reads `Field` need not believe anything here.
use Rattle.std.specs.Prelude.{ℕ, zero, suc}
use Rattle.field.specs.Field.{times}

-- a byte to the power n
unfoldable pub raised : ℕ → ℕ → ℕ
raised a zero = 1
raised a (suc n) = times a (raised a n)

-- the byte that gives 1 with a, where a is not 0: the 255th power of such a byte is 1
unfoldable pub inverse_of : ℕ → ℕ
inverse_of a = raised a 254
