-- A frame that is accepted is near the one that is built of what was read from it, with the reserved bits that came.
use mathlib.Core.Path.{◌≡◌, refl, sym, ap, ap₂, ◌∙◌, subst}
use mathlib.Core.Bool.{true}
use mathlib.Core.List.{List, ◌++◌}
use Prim.Native.Nat.{ℕ}
use native.Mathlib.Omega.{arith}
use lib.Dec.{lit≤}
use lib.ListN.{length, length-drop, take, drop, take-append-drop}
use lib.Seq.{length-take-le, take-take, drop-drop, take-add, take_at, drop_at}
use Rattle.basics.specs.Lists.{Bytes}
use Rattle.basics.proofs.Tests.{same_true}
use Rattle.basics.proofs.Lists.{bytes_take, bytes_drop}
use Rattle.refusals.specs.Table.{first_of}
use Rattle.reed_solomon.specs.Code.{parity, lengthened}
use Rattle.reed_solomon.specs.Payload.{coded_payload}
use Rattle.reed_solomon.proofs.Laws.{parity_zeros, true_codeword, of_shorter}
use Rattle.reed_solomon.proofs.Interleaved.{true_codewords, codewords_coded}
use Rattle.scrambler.specs.Scrambler.{scrambled}
use Rattle.scrambler.proofs.Laws.{scrambled_twice}
use Rattle.header.specs.Header.{header_bytes_with, header_fits}
use Rattle.header_reading.specs.Reading.{header_of}
use Rattle.header_reading.proofs.Received.{received_fits, header_again}
use Rattle.frame.specs.Frame.{preamble, coded_header_with, area_check, area_payload, frame_bytes_with}
use Rattle.repairing.specs.Body.{repaired_body}
use Rattle.repairing.specs.NearPart.{Coded, NearPart}
use Rattle.repairing.proofs.Coded.{repaired_near, repaired_coded}
use Rattle.repairing.proofs.Scrambled.{scrambled_near}
use Rattle.opening.specs.Opening.{unscrambled, header_part, area_part, area_checked, frame_table, opened_header, opened_reserved, opened_area}
use Rattle.opening.specs.NearFrame.{NearFrame}
use Rattle.opening.proofs.Laws.{Passed, frame_passed, unscrambled_length}

module _ (taps : ℕ) (frame : List ℕ) (long : length frame ≡ 2081) (none : first_of (frame_table taps frame) ≡ 0) where
  -- what came, and what it is repaired to
  abbrev arrived : List ℕ
  arrived = unscrambled taps frame

  abbrev body : List ℕ
  body = repaired_body arrived

  passed : Passed taps frame
  passed = frame_passed taps frame none

  arrived_length : length arrived ≡ 2072
  arrived_length = unscrambled_length taps frame long

  coded : Coded body
  coded = repaired_coded arrived arrived_length passed.header_near passed.each_near

  header_length : length (header_part body) ≡ 16
  header_length = length-take-le 16 body (omega (arith, coded.long))

  header_bytes_lem : Bytes (header_part body)
  header_bytes_lem = bytes_take 16 body coded.bytes

  abbrev again : List ℕ
  again = header_bytes_with (opened_reserved taps frame) (header_of (header_part body))

  header_is : again ≡ header_part body
  header_is = header_again (header_part body) header_bytes_lem header_length passed.header_read

  -- ---- the two words

  word_length : length (take 32 body) ≡ 32
  word_length = length-take-le 32 body (omega (arith, coded.long))

  word_front : take 16 (take 32 body) ≡ header_part body
  word_front = take-take 16 32 body (lit≤ tt)

  header_coded : coded_header_with (opened_reserved taps frame) (header_of (header_part body)) ≡ take 32 body
  unfolding coded_header_with
  header_coded =
      ap₂ (λ (a b : List ℕ). a ++ b) (header_is ∙ sym word_front)
      (parity_zeros 223 again ∙ ap parity (header_is ∙ sym word_front)
      ∙ of_shorter (take 32 body) 16 (sym word_length) (omega (arith, word_length)) (true_codeword (lengthened (take 32 body)) coded.header))
      ∙ take-append-drop 16 (take 32 body)

  check_is : take 4 (drop 1940 body) ≡ area_check (area_part body)
  unfolding area_checked
  check_is = same_true (take 4 (drop 1940 body)) (area_check (area_part body)) passed.checked

  area_coded : area_payload (area_part body) ≡ drop 32 body
  unfolding area_payload
  area_coded =
      ap (λ (l : List ℕ). coded_payload (area_part body ++ l)) (sym check_is ∙ ap (take 4) (sym (drop-drop 1908 32 body)))
      ∙ ap coded_payload (sym (take-add 1908 4 (drop 32 body)))
      ∙ sym (codewords_coded (drop 32 body) (true_codewords (drop 32 body) coded.words))

  abbrev again_frame : List ℕ
  again_frame = frame_bytes_with taps (opened_reserved taps frame) (opened_header taps frame) (opened_area taps frame)

  built_is : again_frame ≡ preamble ++ scrambled taps body
  unfolding frame_bytes_with opened_header opened_area
  built_is =
      ap (λ (l : List ℕ). preamble ++ scrambled taps l) (ap₂ (λ (a b : List ℕ). a ++ b) header_coded area_coded ∙ take-append-drop 32 body)

  behind_is : drop 9 frame ≡ scrambled taps arrived
  unfolding unscrambled
  behind_is = sym (scrambled_twice taps (drop 9 frame))

  pub accepted_near : NearFrame frame again_frame
  accepted_near = record {
    long = long;
    preamble_same = passed.begins ∙ sym (ap (take 9) built_is ∙ take_at preamble (scrambled taps body) 9 refl);
    behind_near =
        subst (λ (l : List ℕ). NearPart l (drop 9 again_frame)) (sym behind_is)
        (subst (NearPart (scrambled taps arrived)) (sym (ap (drop 9) built_is ∙ drop_at preamble (scrambled taps body) 9 refl))
        (scrambled_near taps arrived body (arrived_length ∙ sym coded.long) arrived_length (repaired_near arrived arrived_length)));
  }

  pub accepted_fits : header_fits (opened_header taps frame) ≡ true
  unfolding opened_header
  accepted_fits = received_fits (header_part body) header_bytes_lem header_length passed.header_read

  pub accepted_area : length (opened_area taps frame) ≡ 1908
  unfolding opened_area
  accepted_area = length-take-le 1908 (drop 32 body) (omega (arith, coded.long, length-drop 32 body))

  pub accepted_bytes : Bytes (opened_area taps frame)
  unfolding opened_area
  accepted_bytes = bytes_take 1908 (drop 32 body) (bytes_drop 32 body coded.bytes)
