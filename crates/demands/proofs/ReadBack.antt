-- The list that `apply` wrote is read back by `entry` and `packet` as the packets that the frame completed, then the end (01, "Reading the list");
-- whoever sent the frame.
use mathlib.Core.Path.{◌≡◌, sym, ap, ◌∙◌}
use mathlib.Core.Option.{some}
use mathlib.Core.List.{List}
use Prim.Native.Nat.{ℕ}
use lib.ListN.{length, take}
use Rattle.std.specs.Prelude.{Ok}
use Rattle.lent.proofs.Written.{written_front}
use Rattle.header.specs.declared.Header.{Header}
use Rattle.link.specs.Link.{Packet}
use Rattle.link.specs.Store.{layout_packets}
use Rattle.list.specs.Entries.{packets_read}
use Rattle.list.proofs.Whole.{list_read}
use Rattle.receiver.specs.declared.Receiver.{Receiver}
use Rattle.receiver.specs.declared.Applied.{Applied}
use Rattle.receiver.specs.Applying.{joined, ApplyOutcome}
use Rattle.receiver.proofs.Laws.{apply_numbers, accepted_answer, accepted_list, apply_own}

pub apply_read : (header : Header) (area : List ℕ) (receiver : Receiver) (hold list : List ℕ)
    (applied : Applied) (hold' list' : List ℕ) → ApplyOutcome header area receiver hold list (Ok applied) hold' list'
    → (packets_read (take applied.listed list') ≡ some (joined header area receiver hold).out)
    × (applied.packets ≡ length (joined header area receiver hold).out)
apply_read header area receiver hold list applied hold' list' x =
    let out : List Packet = (joined header area receiver hold).out in
    let z = sym (apply_numbers x) in
    let answered = accepted_answer x z in
    let size : applied.listed ≡ length (layout_packets out) = cc in
    let count : applied.packets ≡ length out = cc in
    let well = (apply_own header area receiver hold list applied hold' list' x).well in (
      ap (λ (l : List ℕ). packets_read (take applied.listed l)) (accepted_list x z)
          ∙ ap packets_read (written_front list (layout_packets out) applied.listed (sym size))
          ∙ list_read out well.packets,
      count,
    )
