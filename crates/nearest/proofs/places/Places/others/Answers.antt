-- The numbers behind the one are moved up over it (`others_taken`).
use Rattle.std.proofs.Common.{ap, ◌∙◌, ◌-◌, take, arith}
use Rattle.nearest.proofs.ErrorTurns.{others_taken}
use Rattle.nearest.proofs.places.Places.others.Goals as goal

pub returns : goal.returns
returns c =
    let places = c.args.self.now in
    ap (take (places.count - 1)) c.copy_within.ensures.after ∙ others_taken places.numbers places.count c.args.index c.requires (omega arith)
