-- 223 zeros and the 32 bytes are all 255.
use Rattle.std.proofs.Common.{◌≡◌, ℕ, ◌+◌, ◌-◌, List, ◌++◌, length, drop, sym, ap, ◌∙◌, rules}
use mathlib.Core.List.{append-nil}
use Rattle.basics.specs.Lists.{zeros}
use Rattle.lent.specs.Written.{written}
use Rattle.reed_solomon.specs.Code.{lengthened}
use Rattle.nearest.proofs.lengthened_of.Goals as goal

behind : (header : List ℕ) → length header ≡ 32 → written (zeros 255) 223 header ≡ lengthened header
unfolding written lengthened
behind header long =
    ap (λ n. zeros 223 ++ header ++ drop (223 + n) (zeros 255)) long ∙ append-nil (zeros 223 ++ header) ∙ ap (λ n. zeros (255 - n) ++ header) (sym long)

pub returns : goal.returns
returns c = c.write_at.ensures ∙ behind c.args.header (search rules)
