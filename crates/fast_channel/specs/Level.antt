-- The level that a code stands for (01, "Level").
use Rattle.std.specs.Prelude.{◌≡◌, ℕ, ◌*◌, ℤ, pos, neg_ℤ}

-- −25,086 times the code, in hundred-thousandths of a dBm/m²
abbrev pub level_of : ℕ → ℤ
level_of code = neg_ℤ (pos (25086 * code))

-- the whole outcome of `level`
abbrev pub LevelOutcome : ℕ → ℤ → Type 0
LevelOutcome code r = r ≡ level_of code
