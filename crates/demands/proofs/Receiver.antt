-- The receiver's half of a history: what `open` and `apply` do with a frame that carries pieces is what `Machine` of crate link says of these pieces.
use mathlib.Core.Path.{◌≡◌, refl, ap, subst, sym, ◌∙◌}
use mathlib.Core.Bool.{Bool, true, false, cond}
use mathlib.Core.Option.{Option, some}
use mathlib.Core.List.{List, [], ◌∷◌}
use Prim.Native.Nat.{ℕ, suc, ◌+◌, ◌%◌, ◌≤◌}
use native.Mathlib.Nat.{add-zero, add-suc, suc-add}
use native.Mathlib.Omega.{arith}
use lib.ListN.{length, take}
use Rattle.basics.specs.Counts.{next_txfn}
use Rattle.std.specs.Prelude.{Result, Ok, Err}
use Rattle.refusals.specs.Numbers.{refusal_of}
use Rattle.refusals.specs.Table.{first_of}
use Rattle.refusals.specs.declared.Refusal.{Refusal}
use Rattle.refusals.specs.declared.Refusal.TheVariants.{TooLong}
use Rattle.lent.specs.Written.{written}
use Rattle.lent.proofs.Written.{written_front}
use Rattle.scrambler.specs.Scrambler.{taps_allowed}
use Rattle.header.specs.Header.{all_ones}
use Rattle.header.specs.declared.Header.{Header}
use Rattle.opening.specs.declared.Opened.{Opened}
use Rattle.frame.specs.Frame.{frame_bytes}
use Rattle.nearest.specs.Near.{differences}
use Rattle.opening.specs.NearFrame.{NearFrame}
use Rattle.opening.proofs.Theorems.{open_of_near}
use Rattle.link.proofs.Machine as machine
use Rattle.link.specs.Link.{Piece, fits, Answer}
use Rattle.link.proofs.Machine.{deliver}
use Rattle.link.specs.Ledger.{Mark}
use Rattle.receiver.specs.Applying.{fresh_receiver, pieces_of, missed_count, held_part, joined, area_table, apply_refusal, ApplyOutcome, receiver_after}
use Rattle.receiver.specs.declared.Receiver.{Receiver}
use Rattle.receiver.specs.declared.Applied.{Applied}
use Rattle.receiver.proofs.Machine.{standing, machine_takes, machine_refuses}
use Rattle.receiver.proofs.Tables.{BuffersPassed, read_as, opened_by_area}
use Rattle.receiver.proofs.Laws.{accepted_answer, accepted_hold, refused_answer, refused_hold, apply_pass, by_opened, apply_own}
use Rattle.demands.specs.Demand3.{
  BothCalls,
  AppliedAs,
  Receives,
  Fate,
  missing,
  arrives,
  damaged,
  ReceiverCalls,
  marks,
  read_out,
  learned_from,
  learned,
}
use Rattle.demands.proofs.Outcomes.{refusal_keeps}
use Rattle.demands.proofs.Demand1.{every_call_holds}
use Rattle.demands.proofs.ReadBack.{apply_read}
use Rattle.demands.proofs.Sender.{Sends, AllSend, own_pieces}

-- The state and the hold's bytes stand for a receiver of `Machine`, and are not refused for what they are.
pub record Holds (receiver : Receiver) (hold : List ℕ) (r : machine.Receiver) : Type 0 where
  pub stands : standing receiver hold ≡ r
  pub most : receiver.held ≤ 8999
  pub long : length hold ≡ 9000

pub fresh_holds : (hold : List ℕ) → length hold ≡ 9000 → Holds fresh_receiver hold machine.fresh
fresh_holds hold e = record { stands = refl; most = omega arith; long = e }

-- whatever is refused, by the one call or the other, the hold stays
hold_stays : (opened : Result Opened Refusal) (area : List ℕ) (receiver : Receiver) (hold list : List ℕ) (refusal : Refusal) (left after : List ℕ)
    → AppliedAs opened area receiver hold list (Err refusal) left after → left ≡ hold
hold_stays (Ok opened) area receiver hold list refusal left after o =
    ap (λ (lent : List ℕ × List ℕ). lent.0) (refusal_keeps (every_call_holds.apply opened.header area receiver hold list) refusal (left, after) o)
hold_stays (Err other) area receiver hold list refusal left after o = o.1

-- ---- a frame that carries pieces is received as `Machine` says

-- what the caller learns, and what state and hold stand for after it, are what `Machine` says
pub record Takes (receiver : Receiver) (r : Result Applied Refusal) (hold' list' : List ℕ) (c : machine.Received) : Type 0 where
  pub learns : learned_from r list' ≡ c.answer
  pub holds : Holds (receiver_after receiver r) hold' c.state

module _ (taps : ℕ) (frame came : List ℕ) (near : NearFrame came frame) (receiver : Receiver) (hold : List ℕ) (both : BothCalls)
    (met : Receives taps came receiver hold both)
    (allowed : taps_allowed taps ≡ true) (area-room : 1908 ≤ length both.area) (list-room : 10907 ≤ length both.list)
    (i : ℕ) (pieces : List Piece) (s : Sends taps frame i pieces) (model : machine.Receiver) (h : Holds receiver hold model) where
  abbrev header : Header
  header = s.carries.header

  abbrev area : List ℕ
  area = s.opened.area

  -- it is opened to what was sent, ..
  opens : (both.opened ≡ Ok (record { header = header; repaired = differences came (frame_bytes taps header area) })) × (both.area' ≡ written both.area 0 area)
  opens =
      open_of_near taps all_ones header area came both.area both.opened both.area' allowed s.carries.fits_header s.carries.long
      s.carries.bytes area-room (rw s.carries.coded at near) met.0

  -- .. and applied as opened
  applies : ApplyOutcome header area receiver hold both.list both.answer both.hold' both.list'
  applies =
      let cut : take 1908 both.area' ≡ area = ap (take 1908) opens.1 ∙ written_front both.area area 1908 s.carries.long in
      rw (opens.0, cut) at met.1

  abbrev part : List ℕ
  part = held_part header receiver hold

  abbrev held : List ℕ
  held = (joined header area receiver hold).held

  abbrev as_model : machine.Received
  as_model = machine.receive model (i % 65536) pieces

  comes_so : machine.receive (standing receiver hold) header.txfn.0 pieces ≡ as_model
  comes_so = λ j. machine.receive (h.stands j) (s.carries.counted j) pieces

  buffers : BuffersPassed area receiver.held hold both.list
  buffers = record { sized = s.carries.long; long = h.long; room = list-room; most = h.most }

  -- the rows 14 and 15, by whether the first piece fits
  area_number : (test : Bool) → fits part pieces ≡ test → first_of (area_table part (pieces_of header.kind area)) ≡ cond test 0 15
  area_number test e =
      ap (λ (records : Option (List Piece)). first_of (area_table part records)) (own_pieces taps s) ∙ read_as part pieces ∙ ap (λ (t : Bool). cond t 0 15) e

  accepts : fits part pieces ≡ true → Takes receiver both.answer both.hold' both.list' as_model
  accepts e =
      let read = area_number true e in
      let z = apply_pass header area receiver hold both.list (record { buffers = buffers; fits = s.carries.fits_header; read = read }) in
      let said = accepted_answer applies z in
      let o = rw said at applies in
      let leaves = apply_own header area receiver hold both.list _ both.hold' both.list' o in
      let front : take (length held) both.hold' ≡ held = ap (take (length held)) (accepted_hold applies z) ∙ written_front hold held (length held) refl in
      rw (sym comes_so ∙ machine_takes header area receiver hold pieces (own_pieces taps s) e, said)
      (record {
        learns = ap (read_out (missed_count header receiver)) (apply_read header area receiver hold both.list _ both.hold' both.list' o).0;
        holds = record {
          stands = λ j. record { expected = some (next_txfn header.txfn.0); held = front j };
          most = leaves.most;
          long = leaves.long;
        };
      })

  refuses : fits part pieces ≡ false → Takes receiver both.answer both.hold' both.list' as_model
  unfolding refusal_of
  refuses e =
      let n = apply_refusal header area receiver hold both.list in
      let fifteen : n ≡ 15 =
      by_opened header area receiver hold both.list buffers ∙ opened_by_area header area part s.carries.fits_header ∙ area_number false e in
      let ne : n ≡ 0 → ⊥ = λ z. omega arith in
      let is = sym comes_so ∙ machine_refuses header area receiver hold pieces (own_pieces taps s) e in
      let said : both.answer ≡ Err TooLong = refused_answer applies ne ∙ ap (λ (k : ℕ). Err (refusal_of k)) fifteen in
      rw (is, said, refused_hold applies ne) (record { learns = refl; holds = record { stands = refl; most = h.most; long = h.long } })

  pub receives : Takes receiver both.answer both.hold' both.list' as_model
  receives = go (fits part pieces) refl
    where
      go : (test : Bool) → fits part pieces ≡ test → Takes receiver both.answer both.hold' both.list' as_model
      go true e = accepts e
      go false e = refuses e

-- ---- all frames

module _ (taps : ℕ) (allowed : taps_allowed taps ≡ true) (mark : ℕ → Mark) where
  -- from frame i on, the marks are m
  abbrev Follow : ℕ → (ℕ → Mark) → Type 0
  Follow i m = (k : ℕ) → mark (i + k) ≡ m k

  now : (i : ℕ) (m : ℕ → Mark) → Follow i m → mark i ≡ m 0
  now i m e = rw add-zero at (e 0)

  then : (i : ℕ) (m : ℕ → Mark) → Follow i m → Follow (suc i) (λ k. m (suc k))
  then i m e k = rw (suc-add, ← add-suc) (e (suc k))

  silent : (i : ℕ) (model : machine.Receiver) (all : List (List Piece)) → Follow i (marks []) → deliver mark i model all ≡ []
  silent i model [] e = refl
  silent i model (pieces ∷ more) e = rw (now i (marks []) e) (silent (suc i) model more (then i (marks []) e))

  -- what the caller learns is what the receiver of `Link` answers to the pieces
  pub hears : (fates : List Fate) (i : ℕ) (receiver : Receiver) (hold : List ℕ) (model : machine.Receiver) (frames : List (List ℕ)) (all : List (List Piece))
      → Follow i (marks fates) → Holds receiver hold model → AllSend taps i frames all → ReceiverCalls taps receiver hold fates frames
      → learned fates ≡ deliver mark i model all
  hears [] i receiver hold model frames all e h c d = sym (silent i model all e)
  hears (fate ∷ fates) i receiver hold model [] all e h c d = absurd d
  hears (fate ∷ fates) i receiver hold model (frame ∷ frames) [] e h c d = absurd c
  hears (missing ∷ fates) i receiver hold model (frame ∷ frames) (pieces ∷ more) e h c d =
      rw (now i (marks (missing ∷ fates)) e) (hears fates (suc i) receiver hold model frames more (then i (marks (missing ∷ fates)) e) h c.1 d)
  hears (damaged other refusal both ∷ fates) i receiver hold model (frame ∷ frames) (pieces ∷ more) e h c d =
      let m = marks (damaged other refusal both ∷ fates) in
      let refused = subst (λ (r : Result Applied Refusal). AppliedAs both.opened (take 1908 both.area') receiver hold both.list r both.hold' both.list')
      d.1 d.0.1 in
      let same : both.hold' ≡ hold =
      hold_stays both.opened (take 1908 both.area') receiver hold both.list refusal both.hold' both.list' refused in
      rw (now i m e) (hears fates (suc i) receiver both.hold' model frames more (then i m e) (rw same h) c.1 d.2)
  hears (arrives came both ∷ fates) i receiver hold model (frame ∷ frames) (pieces ∷ more) e h c d =
      let m = marks (arrives came both ∷ fates) in
      let t = receives taps frame came d.0 receiver hold both d.3 allowed d.1 d.2 i pieces c.0 model h in
      let said = machine.receive model (i % 65536) pieces in
      let ih = hears fates (suc i) (receiver_after receiver both.answer) both.hold' said.state frames more (then i m e) t.holds c.1 d.4 in
      rw (now i m e, t.learns) (ap (λ (l : List Answer). said.answer ∷ l) ih)
