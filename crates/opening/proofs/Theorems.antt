-- The two theorems of the frame (demand 2), for all allowed taps: what is near a frame that was built is opened to the same header and area, and what is opened
-- is near what would be built of the answer. So the frames that are accepted are exactly those near the ones that are built of headers that may be sent, of
-- reserved bits of any value and of areas of 1,908 bytes.
use mathlib.Core.Path.{◌≡◌, refl, sym, ap, ap₂, ◌∙◌, subst}
use mathlib.Core.Bool.{true}
use mathlib.Core.List.{List}
use Prim.Native.Nat.{ℕ, ◌≤◌}
use lib.ListN.{length}
use Rattle.std.specs.Prelude.{Result, Ok}
use Rattle.basics.specs.Lists.{Bytes}
use Rattle.lent.specs.Written.{written}
use Rattle.refusals.specs.declared.Refusal.{Refusal}
use Rattle.refusals.specs.Numbers.{number_in, refusal_of}
use Rattle.refusals.proofs.Table.{by-zero}
use Rattle.refusals.proofs.Numbers.{numbered}
use Rattle.scrambler.specs.Scrambler.{taps_allowed}
use Rattle.header.specs.Header.{ReservedBits, header_fits}
use Rattle.header.specs.declared.Header.{Header}
use Rattle.frame.specs.Frame.{frame_bytes_with}
use Rattle.opening.specs.Opening.{open_table, open_refusal, opened_header, opened_reserved, opened_area, opened_wrong, OpenOutcome}
use Rattle.nearest.specs.Near.{differences}
use Rattle.opening.specs.NearFrame.{NearFrame}
use Rattle.opening.specs.declared.Opened.{Opened}
use Rattle.opening.proofs.Laws.{opened, open_passed}
use Rattle.opening.proofs.Built.{near_accepted, near_header_lem, near_area, near_wrong}
use Rattle.opening.proofs.Accepted.{accepted_near, accepted_fits, accepted_area, accepted_bytes}

-- the answer's number is the refusal's
pub open_numbers : {taps : ℕ} {frame before : List ℕ} {r : Result Opened Refusal} {after : List ℕ} → OpenOutcome taps frame before r after
    → number_in r ≡ open_refusal taps frame before
unfolding open_refusal refusal_of
open_numbers {taps} {frame} {before} x = ap number_in x.answer ∙ numbered (open_table taps frame before) _ refl

-- Opening what is near a built frame answers its header and how many bytes differ, and writes its area, for every header that may be sent, all reserved bits and
-- every 1,908 bytes, into any buffer that is large enough.
pub open_of_near : (taps : ℕ) (reserved : ReservedBits) (header : Header) (area came before : List ℕ) (r : Result Opened Refusal) (after : List ℕ)
    → taps_allowed taps ≡ true → header_fits header ≡ true → length area ≡ 1908 → Bytes area → 1908 ≤ length before
    → NearFrame came (frame_bytes_with taps reserved header area) → OpenOutcome taps came before r after
    → (r ≡ Ok record { header = header; repaired = differences came (frame_bytes_with taps reserved header area) }) × (after ≡ written before 0 area)
open_of_near taps reserved header area came before r after t h e bytes room near outcome =
    let none = near_accepted taps reserved header area e bytes came near before t h room in (
      outcome.answer ∙ by-zero _ _ _ none
          ∙ ap₂ (λ (x : Header) (n : ℕ). Ok (opened x n)) (near_header_lem taps reserved header area e bytes came near h)
          (near_wrong taps reserved header area e bytes came near),
      outcome.bytes ∙ by-zero _ _ _ none ∙ ap (written before 0) (near_area taps reserved header area e bytes came near),
    )

-- what is known of a frame that was accepted
pub record AcceptedAs (taps : ℕ) (frame : List ℕ) (header : Header) (repaired : ℕ) (area : List ℕ) : Type 0 where
  pub allowed : taps_allowed taps ≡ true
  pub may_be_sent : header_fits header ≡ true
  pub long : length area ≡ 1908
  pub bytes : Bytes area
  pub near : NearFrame frame (frame_bytes_with taps (opened_reserved taps frame) header area)
  pub counted : repaired ≡ differences frame (frame_bytes_with taps (opened_reserved taps frame) header area)

-- Whatever is accepted is near what would be built of the header that was answered, the reserved bits that came and the area that was written.
pub near_of_open : (taps : ℕ) (frame before : List ℕ) (header : Header) (repaired : ℕ) (after : List ℕ)
    → OpenOutcome taps frame before (Ok record { header = header; repaired = repaired }) after
    → AcceptedAs taps frame header repaired (opened_area taps frame) × (after ≡ written before 0 (opened_area taps frame))
near_of_open taps frame before header repaired after outcome =
    let none : open_refusal taps frame before ≡ 0 = sym (open_numbers outcome) in
    let passed = open_passed taps frame before none in
    let whole = passed.0.long in
    let answer = outcome.answer ∙ by-zero _ _ _ none in
    let same : opened header repaired ≡ opened (opened_header taps frame) (opened_wrong taps frame) = cc answer in
    let header_is : header ≡ opened_header taps frame = ap (λ (o : Opened). o.header) same in
    let area = opened_area taps frame in
    let near : NearFrame frame (frame_bytes_with taps (opened_reserved taps frame) header area) =
    subst (λ (x : Header). NearFrame frame (frame_bytes_with taps (opened_reserved taps frame) x area)) (sym header_is)
    (accepted_near taps frame whole passed.1) in
    let fits = ap header_fits header_is ∙ accepted_fits taps frame whole passed.1 in
    let long = accepted_area taps frame whole passed.1 in
    let bytes = accepted_bytes taps frame whole passed.1 in (
      record {
        allowed = passed.0.allowed;
        may_be_sent = fits;
        long = long;
        bytes = bytes;
        near = near;
        counted = ap (λ (o : Opened). o.repaired) same ∙ near_wrong taps (opened_reserved taps frame) header area long bytes frame near;
      },
      outcome.bytes ∙ by-zero _ _ _ none,
    )
