use Rattle.std.proofs.Common.{length}
use Rattle.basics.specs.Lists.{entries}
use Rattle.basics.proofs.Fill.{Filled}
use Rattle.demo_scenario.specs.Blocks.{sample_of}
use Rattle.demo_scenario.proofs.blocks.write.Given as goal

-- The bytes before the place are the block's samples.
abbrev pub invariant-loop-place : goal.invariant-loop-place
invariant-loop-place l =
    Filled (entries (sample_of l.number) 0 (length l.initial.block)) l.place l.block
