-- What the code does with a record, to the held part, the hold's bytes and the list: the contracts of the functions that join it. Whoever reads `ApplyOutcome`
-- of crate receiver need not believe anything here.
use Rattle.std.specs.Prelude.{◌≡◌, Bool, true, false, List, [], ◌∷◌, ◌++◌, ℕ, ◌+◌, ◌≤◌, ◌<◌, length, take}
use Rattle.basics.specs.Sizes.{area_size, most_held, hold_size}
use Rattle.lent.specs.Written.{written}
use Rattle.link.specs.Link.{Step, most_joined, fits_piece}
use Rattle.link.specs.Store.{layout_packets}
use Rattle.joining.specs.declared.growing.Joined.{Joined}

-- A record's bytes go behind a part of their packet, which is empty before the first of them; "last" completes the packet.
abbrev pub grown : List ℕ → Bool → List ℕ → Step
grown part true bytes = record { held = []; out = (part ++ bytes) ∷ [] }
grown part false bytes = record { held = part ++ bytes; out = [] }

-- What the records before a record leave to it: it fits what is held, and the list has room for a packet that it completes.
pub record Ready (first last : Bool) (bytes : List ℕ) (before : Joined) (hold list : List ℕ) : Type 0 where
  pub hold_long : length hold ≡ hold_size
  pub held_low : before.held ≤ most_held
  pub short : length bytes < 2048
  pub fitting : fits_piece (take before.held hold) first last bytes ≡ true
  pub room : before.listed + 2 + before.held + length bytes ≤ length list
  pub few : before.packets ≤ area_size

-- A record's bytes can go behind the first `part` bytes of the hold, and into the list if they complete a packet.
pub record Growable (part : ℕ) (last : Bool) (bytes : List ℕ) (before : Joined) (hold list : List ℕ) : Type 0 where
  pub hold_long : length hold ≡ hold_size
  pub fitting : part + length bytes ≤ most_joined last
  pub room : before.listed + 2 + part + length bytes ≤ length list
  pub few : before.packets ≤ area_size

-- The part then held is the front of the hold, and the packets completed stand in the list behind those before; all other bytes keep their values.
pub record StepOutcome (step : Step) (before : Joined) (hold list : List ℕ) (r : Joined) (hold' list' : List ℕ) : Type 0 where
  pub held : r.held ≡ length step.held
  pub packets : r.packets ≡ before.packets + length step.out
  pub listed : r.listed ≡ before.listed + length (layout_packets step.out)
  pub hold_bytes : hold' ≡ written hold 0 step.held
  pub list_bytes : list' ≡ written list before.listed (layout_packets step.out)
