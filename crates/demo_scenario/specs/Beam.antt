-- The beam of the demonstration: how far it is off its target at each frame, and what that does to the frame.
use Rattle.std.specs.Prelude.{cond, List, ℕ, zero, suc, ◌+◌, ◌-◌, ◌*◌, ◌%◌, min, eqb, leb, get_or, set}
use Rattle.basics.specs.Sizes.{frame_size}
use Rattle.demo_scenario.specs.declared.beam.Fate.{Fate}
use Rattle.demo_scenario.specs.declared.beam.Fate.TheVariants.{Arrives, Damaged, Lost}
use Rattle.demo_scenario.specs.declared.beam.Hit.{Hit}

-- a wave that rises by one a frame and falls again
unfoldable pub wave_at : ℕ → ℕ → ℕ
wave_at frame period = min (frame % period) (period - frame % period)

-- three waves together
abbrev pub shake_at : ℕ → ℕ
shake_at frame = 2 * wave_at (frame + 1) 22 + 5 * wave_at (frame + 5) 9 + 3 * wave_at frame 4

-- damaged from 29 on, lost from 37 on
unfoldable pub fate_at : ℕ → Fate
fate_at shake = cond (leb 29 shake) (cond (leb 37 shake) Lost Damaged) Arrives

-- how many bytes of a damaged frame are wrong: 5 at 29, 8 at 32, the most that is repaired, and 9 at 33
abbrev pub wrong_at : ℕ → ℕ
wrong_at frame = shake_at frame - 24

-- which ones, by the number of the frame: from its first byte on, the preamble first; in the coded header, whose bytes are neighbours; or in a word of the
-- payload, whose bytes are eight apart
unfoldable pub hit_at : ℕ → Hit
hit_at frame =
    cond (eqb (frame % 16) 1) (record { first = 0; apart = 1 })
    (cond (eqb (frame % 2) 0) (record { first = 9; apart = 1 }) (record { first = 1041; apart = 8 }))

-- bytes of which so many have every bit turned: the first at a place, and each further one so far behind the one before
unfoldable pub turned_from : ℕ → ℕ → ℕ → List ℕ → List ℕ
turned_from place apart zero bytes = bytes
turned_from place apart (suc count) bytes = turned_from (place + apart) apart count (set bytes place (255 - get_or bytes place 0))

-- a frame as it arrives when it is damaged
abbrev pub damaged_at : ℕ → List ℕ → List ℕ
damaged_at frame bytes = turned_from (hit_at frame).first (hit_at frame).apart (wrong_at frame) bytes

-- how many of those bytes arrive: every sixteenth frame is cut short
abbrev pub arriving_at : ℕ → ℕ
arriving_at frame = cond (eqb (frame % 16) 4) 2000 frame_size
