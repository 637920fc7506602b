-- The frame count (01, "The frame on the wire" and "Receiving"). A count is a number below 65,536.
use Rattle.std.specs.Prelude.{ℕ, ◌+◌, ◌-◌, ◌%◌}
use Rattle.basics.specs.Sizes.{frame_numbers}

-- 65,535 is followed by 0
abbrev pub next_txfn : ℕ → ℕ
next_txfn txfn = (txfn + 1) % frame_numbers

-- (TXFN − expected) modulo 65,536; the subtraction is of a number below 65,536
abbrev pub missed_frames : ℕ → ℕ → ℕ
missed_frames txfn expected = (txfn + (frame_numbers - expected)) % frame_numbers
