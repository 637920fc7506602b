-- A frame that was built, with reserved bits of any value, is accepted and read back to its header and its area, as it was built or with at most 8 wrong bytes
-- in the header and in each payload word.
use mathlib.Core.Path.{◌≡◌, refl, sym, ap, ap₂, ◌∙◌, subst}
use mathlib.Core.Bool.{true}
use mathlib.Core.List.{List, ◌++◌, append_assoc}
use Prim.Native.Nat.{ℕ, ◌+◌, ◌-◌, ◌≤◌}
use native.Mathlib.Omega.{arith}
use lib.Dec.{lit≤}
use lib.ListN.{length, take, drop, length-append, length-drop}
use lib.Seq.{take_at, drop_at, drop-drop, take-take, take-add, length-take-le}
use Rattle.basics.specs.Lists.{zeros, Bytes, same}
use Rattle.basics.proofs.Lists.{bytes_append}
use Rattle.basics.proofs.Tests.{same_self}
use Rattle.refusals.specs.Table.{first_of}
use Rattle.reed_solomon.specs.Code.{parity, is_codeword, lengthened}
use Rattle.reed_solomon.specs.Payload.{are_codewords}
use Rattle.reed_solomon.proofs.Laws.{parity_zeros, codeword_true, coded}
use Rattle.reed_solomon.proofs.Interleaved.{codewords_true, coded_codewords, coded_front}
use Rattle.scrambler.specs.Scrambler.{taps_allowed, scrambled}
use Rattle.scrambler.proofs.Laws.{scrambled_twice}
use Rattle.header.specs.Header.{ReservedBits, header_bytes_with, header_fits}
use Rattle.header_reading.specs.Reading.{header_of, header_table}
use Rattle.header.specs.declared.Header.{Header}
use Rattle.header.proofs.Bytes.{header_length}
use Rattle.header_reading.proofs.Sent.{sendable, header_back, none_refused}
use Rattle.frame.specs.Frame.{preamble, coded_header_with, area_check, area_payload, frame_bytes_with}
use Rattle.frame.proofs.Laws.{payload_length, data_length, coded_header_length, frame_length, coded_header_bytes, payload_bytes}
use Rattle.nearest.specs.Near.{differences}
use Rattle.repairing.specs.Body.{repaired_body}
use Rattle.repairing.specs.Repairing.{repaired, wrong_bytes}
use Rattle.repairing.specs.NearPart.{Coded, NearPart}
use Rattle.repairing.proofs.Coded.{sent_header_near, sent_words_near, sent_body}
use Rattle.repairing.proofs.Scrambled.{scrambled_near}
use Rattle.opening.specs.Opening.{unscrambled, header_part, area_part, area_checked, frame_table, open_refusal}
use Rattle.opening.specs.Opening.{opened_header, opened_area, opened_wrong}
use Rattle.opening.specs.NearFrame.{NearFrame}
use Rattle.opening.proofs.Laws.{unscrambled_length, frame_passes, open_by_frame}
use Rattle.opening.proofs.NearFrame.{behind_wrong}

module _ (taps : ℕ) (reserved : ReservedBits) (header : Header) (area : List ℕ) (long : length area ≡ 1908) where
  abbrev bytes : List ℕ
  bytes = header_bytes_with reserved header

  abbrev word : List ℕ
  word = coded_header_with reserved header

  abbrev body : List ℕ
  body = word ++ area_payload area

  abbrev frame : List ℕ
  frame = frame_bytes_with taps reserved header area

  frame_front : take 9 frame ≡ preamble
  unfolding frame_bytes_with
  frame_front = take_at preamble (scrambled taps body) 9 refl

  frame_body : unscrambled taps frame ≡ body
  unfolding unscrambled frame_bytes_with
  frame_body = ap (scrambled taps) (drop_at preamble (scrambled taps body) 9 refl) ∙ scrambled_twice taps body

  -- ---- the parts of the body

  body_header : take 32 body ≡ word
  body_header = take_at word (area_payload area) 32 (coded_header_length reserved header)

  body_payload : drop 32 body ≡ area_payload area
  body_payload = drop_at word (area_payload area) 32 (coded_header_length reserved header)

  body_fields : header_part body ≡ bytes
  unfolding coded_header_with
  body_fields =
      ap (take 16) (append_assoc bytes (parity (zeros 223 ++ bytes)) (area_payload area))
      ∙ take_at bytes _ 16 (header_length reserved header)

  -- the data of the payload
  payload_front : take 1912 (area_payload area) ≡ area ++ area_check area
  unfolding area_payload
  payload_front = coded_front (area ++ area_check area) (data_length area long)

  body_area : area_part body ≡ area
  body_area =
      ap (take 1908) body_payload
      ∙ sym (take-take 1908 1912 (area_payload area) (lit≤ tt))
      ∙ ap (take 1908) payload_front ∙ take_at area (area_check area) 1908 long

  body_check : take 4 (drop 1940 body) ≡ area_check area
  body_check =
      let payload = area_payload area in
      let front : length (take 1908 payload) ≡ 1908 = length-take-le 1908 payload (omega (arith, payload_length area long)) in
      ap (take 4) (sym (drop-drop 1908 32 body) ∙ ap (drop 1908) body_payload)
      ∙ sym (drop_at (take 1908 payload) (take 4 (drop 1908 payload)) 1908 front)
      ∙ ap (drop 1908) (sym (take-add 1908 4 payload) ∙ payload_front) ∙ drop_at area (area_check area) 1908 long

  -- ---- what is asked of it

  header_codeword : is_codeword (lengthened (take 32 body)) ≡ true
  unfolding coded_header_with
  header_codeword =
      ap (λ (l : List ℕ). is_codeword (lengthened l)) (body_header ∙ ap (λ (l : List ℕ). bytes ++ l) (parity_zeros 223 bytes))
      ∙ codeword_true _ (coded bytes (omega (arith, header_length reserved header)))

  payload_codewords : are_codewords (drop 32 body) ≡ true
  unfolding area_payload
  payload_codewords = ap are_codewords body_payload ∙ codewords_true _ (coded_codewords (area ++ area_check area) (data_length area long))

  area_checked_lem : area_checked body ≡ true
  unfolding area_checked
  area_checked_lem = ap₂ same body_check (ap area_check body_area) ∙ same_self (area_check area)

  body_length : length body ≡ 2072
  body_length = length-append word (area_payload area) ∙ ap₂ (λ (m n : ℕ). m + n) (coded_header_length reserved header) (payload_length area long)

  module _ (area_bytes : Bytes area) where
    body_coded : Coded body
    body_coded = record {
      bytes = bytes_append word (area_payload area) (coded_header_bytes reserved header) (payload_bytes area area_bytes);
      long = body_length;
      header = header_codeword;
      words = payload_codewords;
    }

    -- unscrambled, what stands behind its preamble is coded
    pub built_coded : Coded (unscrambled taps frame)
    built_coded = subst Coded (sym frame_body) body_coded

    -- ---- what came of it

    module _ (came : List ℕ) (near : NearFrame came frame) where
      behind_length : length (drop 9 came) ≡ 2072
      behind_length = length-drop 9 came ∙ ap (λ (n : ℕ). n - 9) near.long

      frame_behind : length (drop 9 frame) ≡ 2072
      frame_behind = length-drop 9 frame ∙ ap (λ (n : ℕ). n - 9) (frame_length reserved header taps area long)

      came_near : NearPart (unscrambled taps came) body
      unfolding unscrambled
      came_near =
          subst (NearPart (unscrambled taps came)) frame_body
          (scrambled_near taps (drop 9 came) (drop 9 frame) (behind_length ∙ sym frame_behind) behind_length near.behind_near)

      came_length : length (unscrambled taps came) ≡ 2072
      came_length = unscrambled_length taps came near.long

      came_body : repaired_body (unscrambled taps came) ≡ body
      came_body = sent_body (unscrambled taps came) body came_length body_coded came_near

      -- no row from 7 on refuses it
      near_passes : header_fits header ≡ true → first_of (frame_table taps came) ≡ 0
      near_passes h =
          frame_passes taps came record {
            begins = near.preamble_same ∙ frame_front;
            header_near = sent_header_near (unscrambled taps came) body came_length body_coded came_near;
            header_read = ap (λ (l : List ℕ). first_of (header_table (header_part l))) came_body
                ∙ ap (λ (l : List ℕ). first_of (header_table l)) body_fields
                ∙ none_refused reserved header (sendable header h);
            each_near = sent_words_near (unscrambled taps came) body came_length body_coded came_near;
            checked = ap area_checked came_body ∙ area_checked_lem;
          }

      pub near_accepted : (buffer : List ℕ) → taps_allowed taps ≡ true → header_fits header ≡ true → 1908 ≤ length buffer
          → open_refusal taps came buffer ≡ 0
      near_accepted buffer t h room =
          open_by_frame taps came buffer (record { allowed = t; long = near.long; room = room }) ∙ near_passes h

      pub near_header_lem : header_fits header ≡ true → opened_header taps came ≡ header
      unfolding opened_header
      near_header_lem h = ap (λ (l : List ℕ). header_of (header_part l)) came_body ∙ ap header_of body_fields ∙ header_back reserved header (sendable header h)

      pub near_area : opened_area taps came ≡ area
      unfolding opened_area
      near_area = ap area_part came_body ∙ body_area

      -- the bytes that were repaired are those that were wrong
      pub near_wrong : opened_wrong taps came ≡ differences came frame
      unfolding wrong_bytes repaired unscrambled frame_bytes_with
      near_wrong =
          ap (λ (l : List ℕ). differences (drop 9 came) (scrambled taps l)) came_body
          ∙ ap (differences (drop 9 came)) (sym (drop_at preamble (scrambled taps body) 9 refl))
          ∙ sym (behind_wrong came frame near)
