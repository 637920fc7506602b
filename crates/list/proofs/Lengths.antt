-- The length of the packet at a position, as the code finds it: there is no room for a mark; the mark is no length; it is one, and the
-- packet stands inside the list.
use mathlib.Core.Path.{◌≡◌, refl}
use mathlib.Core.Bool.{Bool, true, false, and-false}
use mathlib.Core.List.{List}
use Prim.Native.Nat.{ℕ, ◌+◌, ◌<◌}
use native.Mathlib.Omega.{arith}
use lib.ListN.{length}
use Rattle.std.specs.Prelude.{unwrap_or}
use Rattle.std.specs.Bool.{then_some}
use borrow.Author.Tests.{lt-leb}
use Rattle.link.proofs.Store.{mark_from, is_length_from}
use Rattle.list.specs.Entries.{length_at}

module _ (list : List ℕ) (position : ℕ) where
  pub no_mark : length list < position + 2 → 0 ≡ length_at list position
  unfolding length_at
  no_mark h = rw (lt-leb (position + 2 + mark_from list position) (length list) (omega arith), and-false)

  module _ (n : ℕ) (e : n ≡ mark_from list position) (t : Bool) (test : t ≡ is_length_from 9000 n list position) where
    pub no_length : t ≡ false → 0 ≡ length_at list position
    unfolding length_at
    no_length h = rw (← e, ← test, h)

    pub is_length_lem : t ≡ true → n ≡ length_at list position
    unfolding length_at
    is_length_lem h = rw (← e, ← test, h)

  -- as the code answers it
  pub found : (n : ℕ) → n ≡ mark_from list position → (t : Bool) → t ≡ is_length_from 9000 n list position
      → unwrap_or (then_some t n) 0 ≡ length_at list position
  found n e true test = is_length_lem n e true test refl
  found n e false test = no_length n e false test refl
