-- What C gets wrong is refused and never mended: numbers that are no receiver's state hold too much (3).
use mathlib.Core.Path.{◌≡◌}
use mathlib.Core.Bool.{false}
use lib.Dec.{leb}
use Rattle.basics.specs.Sizes.{most_held}
use Rattle.flat.specs.States.{is_receiver, held_of, receiver_of}
use Rattle.flat.specs.declared.states.FlatReceiver.{FlatReceiver}

pub state_misfit : (flat : FlatReceiver) → is_receiver flat ≡ false → leb (receiver_of flat).held most_held ≡ false
unfolding held_of
state_misfit flat e = rw e
