-- The queue that bytes stand for is the one that they are read as.
use Rattle.std.proofs.Common.{◌≡◌, ℕ, true, List, refl, ap, arith}
use mathlib.Core.Option.{Option, none, some, get_or}
use Rattle.link.specs.Link.{Queue, empty}
use Rattle.basics.specs.Lists.{is_some}
use Rattle.link.specs.Parsing.{parse, is_whole}
use Rattle.marks.specs.Queue.{queue_in}

pub whole_parsed : (bytes : List ℕ) → is_whole bytes ≡ true → parse bytes ≡ some (queue_in bytes)
unfolding is_whole queue_in
whole_parsed bytes = go (parse bytes)
  where
    go : (o : Option Queue) → is_some o ≡ true → o ≡ some (get_or o empty)
    go none e = let z : ◌≡◌ {A = ℕ} 0 1 = cc in absurd (omega arith)
    go (some q) e = refl

pub queue_is : (bytes : List ℕ) (queue : Queue) → parse bytes ≡ some queue → queue_in bytes ≡ queue
unfolding queue_in
queue_is bytes queue e = ap (λ (o : Option Queue). get_or o empty) e
