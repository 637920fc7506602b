-- What follows the preamble fills the 2,072 bytes, and scrambling is by its contract what the definition does with it.
use Rattle.std.proofs.Common.{ap, ◌∙◌}
use Rattle.basics.proofs.Lists.{cut_rest_lem}
use Rattle.opening.specs.Opening.{unscrambled}
use Rattle.scrambler.specs.Scrambler.{scrambled}
use Rattle.opening.proofs.judging.unscramble.Goals as goal

pub returns : goal.returns
unfolding unscrambled
returns c = c.scramble.ensures ∙ ap (scrambled c.args.taps) (c.copy_from_slice.ensures.after ∙ cut_rest_lem c.args.frame.now 9)
