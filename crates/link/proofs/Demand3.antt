-- Demand 3 over frames that are lists of pieces, for every choice of how much a frame takes.
use mathlib.Core.Path.{◌≡◌}
use mathlib.Core.Option.{none}
use mathlib.Core.List.{List, []}
use Prim.Native.Nat.{ℕ}
use Rattle.link.specs.Link.{ArePackets, Queue, empty}
use Rattle.link.proofs.Machine.{Call, puts_of, frames_of, queue_after, fresh}
use Rattle.link.specs.Ledger.{Mark, Limit}
use Rattle.link.specs.Demand3.{Demand3}
use Rattle.link.proofs.Machine.{deliver}
use Rattle.link.proofs.Reassembly.{told, told_taken, told_missed, right, fit}
use Rattle.link.proofs.Numbers.{same}
use Rattle.link.proofs.Sender.{Run, run}

module _ (load : Queue → ℕ) (calls : List Call) (mark : ℕ → Mark) (allowed : ArePackets (puts_of calls)) (limit : Limit mark) where
  sent : Run load 0 none empty calls
  sent = run load 0 none empty calls tt tt allowed

  as_told : deliver mark 0 fresh (frames_of load empty calls) ≡ told mark 0 [] (frames_of load empty calls)
  as_told = same mark limit (frames_of load empty calls) (fit mark 0 none (frames_of load empty calls) tt sent.filled sent.fit)

  pub demand3 : Demand3 (puts_of calls) (frames_of load empty calls) (queue_after load empty calls) mark (deliver mark 0 fresh (frames_of load empty calls))
  demand3 = record {
    all_accepted = rw as_told (told_taken mark 0 [] (frames_of load empty calls));
    counted = rw as_told (told_missed mark 0 [] (frames_of load empty calls));
    exactly = rw as_told (right mark 0 none (frames_of load empty calls) tt sent.filled);
    in_order = sent.ordered;
  }
