-- The two rows of the ring, 2 and 3, which each call on it judges: what is known where they do not apply.
use mathlib.Core.Path.{◌≡◌}
use mathlib.Core.Bool.{true}
use mathlib.Core.List.{List, []}
use Prim.Native.Nat.{ℕ, ◌≤◌, ◌<◌}
use native.Mathlib.Omega.{arith}
use lib.Dec.{eqb}
use lib.ListN.{length}
use borrow.Author.Tests.{eqb-true}
use Rattle.std.specs.Prelude.{Ok}
use Rattle.refusals.specs.Numbers.{judged_by}
use Rattle.refusals.proofs.Numbers.{passed}
use Rattle.refusals.proofs.Table.{unless_passed}
use Rattle.marks.specs.Queue.{is_ring_whole}
use Rattle.marks.proofs.Used.{ring_passed}
use Rattle.sender.specs.Waiting.{waiting_refusal}

pub record RingJudged (queue : List ℕ) (start used : ℕ) : Type 0 where
  pub long : length queue ≡ 32768
  pub whole : is_ring_whole queue start used ≡ true
  pub within : start < 32768
  pub most : used ≤ 32768

pub ring_judged : {queue : List ℕ} {start used : ℕ} {given : Unit {0}} → Ok given ≡ judged_by (waiting_refusal queue start used)
    → RingJudged queue start used
unfolding waiting_refusal
ring_judged {queue} {start} {used} e =
    let size = unless_passed 2 (eqb (length queue) 32768) _ (omega arith) (passed _ _ _ e) in
    let whole = unless_passed 3 (is_ring_whole queue start used) [] (omega arith) size.1 in
    record {
      long = eqb-true (length queue) 32768 size.0;
      whole = whole.0;
      within = (ring_passed queue start used whole.0).within;
      most = (ring_passed queue start used whole.0).most;
    }
