-- Filling, freeing and building meet the three parts of the outcome, by the laws of Sending.antt.
use Rattle.std.proofs.Common.{sym, ap₂, ◌∙◌, List, ℕ, rules}
use Rattle.basics.proofs.Lists.{bytes_each}
use Rattle.lent.specs.Written.{written}
use Rattle.refusals.proofs.Numbers.{passed, answered, stands}
use Rattle.header.specs.declared.FrameKind.{FrameKind}
use Rattle.header.specs.declared.Header.{Header}
use Rattle.frame.specs.Frame.{frame_bytes}
use Rattle.sending.proofs.Sending.{next_judged, kind_is, stop_within, freed_is, sent_path}
use Rattle.sending.proofs.next_frame.Goals as goal

pub free_front-left-requires : goal.free_front-left-requires
free_front-left-requires c =
    let p = next_judged {out = c.args.out.now} (sym c.in_ok-judge.was ∙ c.judge.ensures) in
    (p.long, p.within, p.most, stop_within c.args.sender p c.fill-filled.ensures, c.fill-filled.ensures.cut)

pub returns : goal.returns
returns c =
    let given = c.args in
    let judged = sym c.in_ok-judge.was ∙ c.judge.ensures in
    let none = passed _ _ _ judged in
    let p = next_judged {out = given.out.now} judged in
    let kind = c.kind_for.ensures ∙ kind_is given.sender p (bytes_each given.queue.now (λ i. search rules)) in
    let freed = freed_is given.sender p c.fill-filled.ensures c.free_front-left.ensures in
    let after = c.sender_after.ensures in
    let header : FrameKind → Header = λ k. record { txfn = given.sender.next; kind = k; fields = given.fields } in
    record {
      answer = answered _ _ _ none (sent_path (after.0 ∙ freed.begins) (after.1 ∙ freed.count) after.2 kind);
      bytes = stands _ _ _ _ none freed.bytes;
      frame = stands _ _ _ _ none
          (c.build.ensures
          ∙ ap₂ (λ (k : FrameKind) (l : List ℕ). written given.out.now 0 (frame_bytes given.taps (header k) l)) kind c.fill-filled.ensures.filled);
    }
