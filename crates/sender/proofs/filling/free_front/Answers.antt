-- Filling stopped before a mark, or it cut a packet: the laws are those of Freeing.antt.
use Rattle.std.proofs.Common.{ap, ◌∙◌, ◌+◌, ◌-◌, ◌%◌}
use Rattle.ring.specs.Ring.{ring_written}
use Rattle.sender.proofs.Freeing.{frees_whole, frees_cut}
use Rattle.sender.proofs.filling.free_front.Goals as goal

pub returns-in-None : goal.returns-in-None
returns-in-None c =
    rw c.in-None.is (frees_whole c.args.queue.now c.args.sender c.args.filled.stop c.requires.0 c.requires.1 c.requires.2 c.requires.3)

pub returns-in-Some : goal.returns-in-Some
returns-in-Some c =
    let front = (c.args.sender.start + (c.args.filled.stop - 2)) % 32768 in
    rw c.in-Some.is (
    frees_cut c.args.queue.now c.args.sender c.args.filled.stop c.requires.0 c.requires.1 c.requires.2 c.requires.3
    c.in-Some.unsent (rw c.in-Some.is at c.requires.4).1
    (c.write_at.ensures ∙ ap (ring_written c.args.queue.now front 0) c.bytes_of-mark.ensures))
