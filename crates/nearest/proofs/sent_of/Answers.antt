-- What stands behind the first 223 bytes of 255 is 32 bytes.
use Rattle.std.proofs.Common.{◌≡◌, ◌-◌, length, take, drop, rules, sym, ap, ◌∙◌}
use Rattle.basics.proofs.Lists.{cut_rest_lem}
use Rattle.nearest.proofs.sent_of.Goals as goal

pub returns : goal.returns
returns c =
    let word = c.args.word in
    let long : length word ≡ 255 = search rules in
    c.copy_from_slice.ensures.after ∙ ap (λ n. take (n - 223) (drop 223 word)) (sym long) ∙ cut_rest_lem word 223
