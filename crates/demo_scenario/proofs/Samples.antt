-- The bytes of a block, one at a time.
use mathlib.Core.Path.{◌≡◌, sym, ap, ◌∙◌}
use mathlib.Core.List.{List}
use Prim.Native.Nat.{ℕ, ◌+◌, ◌≤◌, ◌<◌}
use native.Mathlib.Nat.{zero-add}
use native.Mathlib.Omega.{arith}
use lib.ListN.{length, get_or, set}
use Rattle.std.specs.List.{EachIndex, slice_index}
use Rattle.basics.specs.Lists.{entries}
use Rattle.basics.proofs.Lists.{entries_at, entries_length}
use Rattle.basics.proofs.Fill.{Filled, filled_more, filled_all}
use Rattle.demo_scenario.specs.Blocks.{length_of, sample_of}

sample_at : (number n place : ℕ) → place < n → sample_of number place ≡ get_or (entries (sample_of number) 0 n) place 0
sample_at number n place h = sym (entries_at (sample_of number) 0 n place h ∙ ap (sample_of number) (zero-add place))

-- written up to a place, and then one more
pub one_more : (number n place sample : ℕ) (bytes : List ℕ) → Filled (entries (sample_of number) 0 n) place bytes → length bytes ≡ n → place < n
    → sample ≡ sample_of number place → Filled (entries (sample_of number) 0 n) (place + 1) (set bytes place sample)
one_more number n place sample bytes f long h e =
    filled_more (entries (sample_of number) 0 n) bytes place sample f (omega (arith, long)) (e ∙ sample_at number n place h)

-- all are written
pub all_written : (number n place : ℕ) (bytes : List ℕ) → Filled (entries (sample_of number) 0 n) place bytes → length bytes ≡ n → n ≤ place
    → bytes ≡ entries (sample_of number) 0 n
all_written number n place bytes f long h =
    filled_all (entries (sample_of number) 0 n) bytes n (λ k l. f k (omega (arith, l))) long (entries_length (sample_of number) 0 n)

-- bytes are a block if they are as many as it has, and each is its sample
pub each_sample : (number : ℕ) (bytes : List ℕ) → length bytes ≡ length_of number → EachIndex bytes (λ k. slice_index bytes k ≡ sample_of number k)
    → bytes ≡ entries (sample_of number) 0 (length_of number)
each_sample number bytes long each =
    all_written number (length_of number) (length_of number) bytes
    (λ k h. each k (omega (arith, long)) ∙ sample_at number (length_of number) k h) long (omega arith)
