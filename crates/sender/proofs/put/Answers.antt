-- Mark and packet are written one behind the other (`put_written`).
use Rattle.std.proofs.Common.{refl, sym, ap, ◌∙◌, List, ℕ, ◌+◌}
use Rattle.refusals.proofs.Numbers.{passed, answered, stands}
use Rattle.ring.specs.Ring.{ring_written}
use Rattle.sender.proofs.Putting.{put_judged, put_written}
use Rattle.sender.proofs.put.Goals as goal

pub returns : goal.returns
returns c =
    let given = c.args in
    let start = given.sender.start in
    let used = given.sender.used in
    let judged = sym c.in_ok-judge_put.was ∙ c.judge_put.ensures in
    let none = passed _ _ _ judged in
    let mark = c.write_at.ensures ∙ ap (ring_written given.queue.now start used) c.bytes_of-mark.ensures in
    record {
      answer = answered _ _ _ none refl;
      bytes = stands _ _ _ _ none
          (c.write_at-2.ensures ∙ ap (λ (l : List ℕ). ring_written l start (used + 2) given.packet.now) mark
          ∙ put_written (put_judged judged));
    }
