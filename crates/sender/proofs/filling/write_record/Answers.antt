-- The mark, then the bytes off the ring: one record.
use mathlib.Core.Path.{◌≡◌, ap, ◌∙◌}
use mathlib.Core.List.{List, []}
use native.Mathlib.Omega.{arith}
use Prim.Native.Nat.{ℕ, ◌+◌, ◌*◌}
use mathlib.Core.Bool.{Bool, true, false, cond}
use Rattle.std.specs.Int.{from_bool}
use lib.ListN.{length, take, drop, length-take, length-drop}
use Rattle.link.specs.Store.{marked}
use Rattle.lent.specs.Written.{written}
use Rattle.lent.proofs.Written.{written_append}
use Rattle.ring.specs.Ring.{round_from}
use Rattle.ring.proofs.Laws.{round_length}
use Rattle.sender.proofs.filling.write_record.Goals as goal

-- a mark's bit, as a number
bit : (set : Bool) (value : ℕ) → from_bool set * value ≡ cond set value 0
bit true value = omega arith
bit false value = omega arith

pub returns : goal.returns
returns c =
    let given = c.args in
    let n = given.piece.length in
    let mark = c.from.result * 32768 + c.from-2.result * 16384 + n in
    let piece = take n (drop given.piece.start (round_from given.start given.queue.now)) in
    let long : length piece ≡ n = simp (length-take, length-drop, round_length) (omega arith) in
    c.copy_out.ensures
    ∙ ap (λ (l : List ℕ). written l (given.at + 2) piece)
    (c.write_at.ensures ∙ ap (written given.area.now given.at) c.bytes_of.ensures)
    ∙ written_append given.area.now given.at (marked mark []) piece (omega (arith, long))
    ∙ rw (c.from.ensures, c.from-2.ensures, bit given.piece.first 32768, bit given.piece.last 16384, long)
