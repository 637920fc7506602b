-- The sum of nine products, folded from the last (`total_back`), as `dot` has it (`dot_products`).
use Rattle.std.proofs.Common.{◌≡◌, ℕ, List, length, take, reverse, rules, ◌∙◌}
use Rattle.std.specs.List.{fold}
use Rattle.std.specs.Int.Bits.{bit_xor}
use Rattle.nearest.proofs.LocatingTurns.{dot_products, total_back}
use Rattle.nearest.proofs.locating.dot_of.Goals as goal

pub returns : goal.returns
returns c =
    let products : List ℕ = c.products-products.result in
    let folded : c.fold.result ≡ fold (λ (sum x : ℕ). bit_xor x sum) 0 (reverse (take 9 products)) = search rules in
    let long : length c.args.row ≡ 9 = search rules in
    folded ∙ total_back (take 9 products)
    ∙ dot_products c.args.row c.args.sums.now c.widened.result c.widened-2.result products long c.requires c.products-products.ensures.0 c.widened.ensures
    c.widened-2.ensures c.products-products.ensures.1
