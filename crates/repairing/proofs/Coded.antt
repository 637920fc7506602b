-- A body that is coded, and one that came with at most 8 bytes wrong in the header and in each word: what is repaired is what was coded, and what is repaired
-- at all is coded and that near.
use mathlib.Core.Path.{◌≡◌, sym, ap, ap₂, ◌∙◌, subst}
use mathlib.Core.Bool.{true}
use Rattle.std.specs.Prelude.{Option, Some, is_some}
use mathlib.Core.List.{List, ◌++◌}
use Prim.Native.Nat.{ℕ, ◌+◌, ◌-◌, ◌*◌, ◌/◌, ◌%◌, ◌≤◌, ◌<◌}
use native.Mathlib.Nat.{mod-lt}
use native.Mathlib.Omega.{arith}
use lib.Dec.{lit<}
use lib.ListN.{length, get_or, take, drop, length-drop, take-append-drop}
use lib.Seq.{ext_get_or, length-take-le, take_at, drop_at}
use Rattle.basics.specs.Lists.{Bytes}
use Rattle.basics.proofs.Lists.{byte_at_lem, bytes_take, bytes_drop, bytes_append, bytes_entries}
use Rattle.basics.proofs.Tests.{all_below_lem, below_true}
use Rattle.reed_solomon.specs.Code.{is_codeword, lengthened}
use Rattle.reed_solomon.specs.Payload.{every_eighth, are_codewords}
use Rattle.reed_solomon.proofs.Laws.{codeword_true, true_codeword}
use Rattle.reed_solomon.proofs.Interleaved.{eighth_length, eighth_at, eighth_bytes, Codewords, codewords_true, true_codewords}
use Rattle.nearest.specs.Near.{near_word, near_header, or_own, repaired_word, repaired_header, differences}
use Rattle.nearest.proofs.Nearness.{NearWord, self_near}
use Rattle.nearest.proofs.Nearest.{found_is, near_is, near_one, header_is, header_one}
use Rattle.repairing.specs.NearPart.{Coded, NearPart}
use Rattle.repairing.specs.Body.{words_near, repaired_byte, repaired_payload, repaired_body}
use Rattle.repairing.proofs.Differences.{differ_sym}
use Rattle.repairing.proofs.Words.{payload_length, payload_at, eighth_repaired}
use Rattle.repairing.proofs.Lengths.{front_length, body_length}
use Rattle.repairing.proofs.Columns.{header_few, words_few}

header_size : (body : List ℕ) → length body ≡ 2072 → length (take 32 body) ≡ 32
header_size body long = length-take-le 32 body (omega arith)

payload_size : (body : List ℕ) → length body ≡ 2072 → length (drop 32 body) ≡ 2040
payload_size body long = length-drop 32 body ∙ ap (λ (n : ℕ). n - 32) long

turned : (a b : List ℕ) → differences a b ≤ 8 → differences b a ≤ 8
turned a b h = subst (λ (n : ℕ). n ≤ 8) (differ_sym a b) h

-- ---- what was coded, repaired

module _ (came sent : List ℕ) (long : length came ≡ 2072) (coded : Coded sent) (near : NearPart came sent) where
  header_sent : near_header (take 32 came) ≡ Some (take 32 sent)
  header_sent =
      header_one (take 32 came) (header_size came long) (take 32 sent)
      (bytes_take 32 sent coded.bytes, header_size sent coded.long, coded.header, turned (take 32 came) (take 32 sent) near.header_near)

  word_sent : (k : ℕ) → k < 8 → near_word (every_eighth 255 k (drop 32 came)) ≡ Some (every_eighth 255 k (drop 32 sent))
  word_sent k h =
      let word = every_eighth 255 k (drop 32 came) in
      let own = every_eighth 255 k (drop 32 sent) in
      near_one word (eighth_length 255 k (drop 32 came)) own (
        eighth_bytes 255 k (drop 32 sent) (bytes_drop 32 sent coded.bytes),
        codeword_true own ((true_codewords (drop 32 sent) coded.words).each k h),
        turned word own (near.each_near k h),
      )

  pub sent_header_near : is_some (near_header (take 32 came)) ≡ true
  sent_header_near = ap is_some header_sent

  pub sent_words_near : words_near (drop 32 came) ≡ true
  unfolding words_near
  sent_words_near = all_below_lem 8 (λ k. is_some (near_word (every_eighth 255 k (drop 32 came)))) (λ k h. ap is_some (word_sent k h))

  sent_payload : repaired_payload (drop 32 came) ≡ drop 32 sent
  unfolding repaired_word
  sent_payload =
      let payload = drop 32 sent in
      ext_get_or 0 (repaired_payload (drop 32 came)) payload (payload_length (drop 32 came) ∙ sym (payload_size sent coded.long))
      (λ i h.
      let short : i < 2040 = subst (λ (m : ℕ). i < m) (payload_length (drop 32 came)) h in
      let k = i % 8 in
      let low : k < 8 = mod-lt i (lit< tt) in
      let back : k + 8 * (i / 8) ≡ i = omega arith in
      payload_at (drop 32 came) i short
      ∙ ap (λ (o : Option (List ℕ)). get_or (or_own o (every_eighth 255 k (drop 32 came))) (i / 8) 0) (word_sent k low)
      ∙ eighth_at 255 k payload (i / 8) (omega arith) ∙ ap (λ (n : ℕ). get_or payload n 0) back)

  pub sent_body : repaired_body came ≡ sent
  unfolding repaired_body repaired_header
  sent_body =
      ap₂ (λ (a b : List ℕ). a ++ b) (ap (λ (o : Option (List ℕ)). or_own o (take 32 came)) header_sent) sent_payload
      ∙ take-append-drop 32 sent

-- ---- a part is near itself

pub near_itself : (part : List ℕ) → NearPart part part
near_itself part = record { header_near = self_near (take 32 part); each_near = λ k h. self_near (every_eighth 255 k (drop 32 part)) }

-- ---- what is repaired

module _ (came : List ℕ) (long : length came ≡ 2072) where
  repaired_front : take 32 (repaired_body came) ≡ repaired_header (take 32 came)
  unfolding repaired_body
  repaired_front = take_at (repaired_header (take 32 came)) (repaired_payload (drop 32 came)) 32 (front_length came long)

  repaired_behind : drop 32 (repaired_body came) ≡ repaired_payload (drop 32 came)
  unfolding repaired_body
  repaired_behind = drop_at (repaired_header (take 32 came)) (repaired_payload (drop 32 came)) 32 (front_length came long)

  pub repaired_near : NearPart came (repaired_body came)
  repaired_near = record {
    header_near =
        turned (take 32 (repaired_body came)) (take 32 came)
        (subst (λ (l : List ℕ). differences l (take 32 came) ≤ 8) (sym repaired_front) (header_few (take 32 came) (header_size came long)));
    each_near = λ k h.
        turned (every_eighth 255 k (drop 32 (repaired_body came))) (every_eighth 255 k (drop 32 came))
        (subst (λ (l : List ℕ). differences (every_eighth 255 k l) (every_eighth 255 k (drop 32 came)) ≤ 8) (sym repaired_behind) (words_few came long k h));
  }

  module _ (header : is_some (near_header (take 32 came)) ≡ true) (words : words_near (drop 32 came) ≡ true) where
    header_found : near_header (take 32 came) ≡ Some (repaired_header (take 32 came))
    unfolding repaired_header
    header_found = found_is (near_header (take 32 came)) (take 32 came) header

    word_found : (k : ℕ) → k < 8 → NearWord (every_eighth 255 k (drop 32 came)) (repaired_word (every_eighth 255 k (drop 32 came)))
    unfolding words_near repaired_word
    word_found k h =
        let word = every_eighth 255 k (drop 32 came) in
        near_is word (eighth_length 255 k (drop 32 came)) _
        (found_is (near_word word) word (below_true 8 (λ k. is_some (near_word (every_eighth 255 k (drop 32 came)))) words k h))

    payload_bytes : Bytes (repaired_payload (drop 32 came))
    unfolding repaired_payload repaired_byte
    payload_bytes =
        bytes_entries (repaired_byte (drop 32 came)) 0 2040 (λ i h.
        byte_at_lem (repaired_word (every_eighth 255 (i % 8) (drop 32 came))) (word_found (i % 8) (mod-lt i (lit< tt))).0 (i / 8))

    repaired_words : Codewords (repaired_payload (drop 32 came))
    repaired_words = record {
      long = payload_length (drop 32 came);
      each = λ k h. true_codeword _ (subst (λ (w : List ℕ). is_codeword w ≡ true) (sym (eighth_repaired k (drop 32 came) h)) (word_found k h).1);
    }

    pub repaired_coded : Coded (repaired_body came)
    unfolding repaired_body
    repaired_coded =
        let is = header_is (take 32 came) (header_size came long) _ header_found in
        record {
          bytes = bytes_append (repaired_header (take 32 came)) (repaired_payload (drop 32 came)) is.0 payload_bytes;
          long = body_length came long;
          header = ap (λ (l : List ℕ). is_codeword (lengthened l)) repaired_front ∙ is.2;
          words = ap are_codewords repaired_behind ∙ codewords_true _ repaired_words;
        }
