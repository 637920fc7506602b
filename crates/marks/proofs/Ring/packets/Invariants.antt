-- From mark to mark: the invariant is that the packets counted and those still to come are all that wait.
use Rattle.std.proofs.Common.{◌-◌, length}
use Rattle.marks.specs.Queue.{queue_in, packet_count}
use Rattle.marks.proofs.Counting.{Left}
use Rattle.marks.proofs.Ring.packets.Given as goal

abbrev pub invariant-loop-at : goal.invariant-loop-at
invariant-loop-at l = Left l.self (packet_count (queue_in l.self)) l.at l.packets

abbrev pub decreases-loop-at : goal.decreases-loop-at
decreases-loop-at l = length l.self - l.at
