-- The eight words of a payload: all of them are codewords exactly where the payload is its data, coded. And of bytes the coded payload is bytes.
use mathlib.Core.Path.{◌≡◌, refl, sym, ap, ap₂, ◌∙◌, subst}
use mathlib.Core.Logic.{⊎_elim}
use mathlib.Core.Bool.{true}
use mathlib.Core.List.{List, ◌∷◌, ◌++◌}
use Prim.Native.Nat.{ℕ, zero, suc, ◌+◌, ◌-◌, ◌*◌, ◌/◌, ◌%◌, ◌≤◌, ◌<◌}
use native.Mathlib.Nat.{not-suc-le-zero, le_of_suc-le-suc, add-zero, zero-add, mod-lt}
use native.Mathlib.Omega.{arith}
use lib.Dec.{lit<, eqb}
use borrow.Author.Tests.{eq-eqb, eqb-true}
use lib.ListN.{length, get_or, take, length-append, get_or-append}
use lib.Seq.{ext_get_or, length-take-le, get_or-take, get_or-append-add, take_at}
use Rattle.basics.specs.Lists.{Bytes, entries, all_below}
use Rattle.basics.proofs.Tests.{lt_or_ge, both_true, left_true, right_true, below_true, all_below_lem}
use Rattle.basics.proofs.Lists.{bytes_append, byte_at_lem, bytes_entries, entries_length, entries_at}
use Rattle.reed_solomon.specs.Code.{parity, is_codeword}
use Rattle.reed_solomon.specs.Payload.{every_eighth, parity_byte, coded_payload, are_codewords}
use Rattle.reed_solomon.proofs.Laws.{Codeword, codeword_true, true_codeword, lengthened_whole, by_places, at_place}
use Rattle.reed_solomon.proofs.Roots.{parity_bytes}

-- ---- every eighth byte, read

pub eighth_length : (n k : ℕ) (l : List ℕ) → length (every_eighth n k l) ≡ n
unfolding every_eighth
eighth_length zero k l = refl
eighth_length (suc n) k l = ap suc (eighth_length n (k + 8) l)

pub eighth_at : (n k : ℕ) (l : List ℕ) (i : ℕ) → i < n → get_or (every_eighth n k l) i 0 ≡ get_or l (k + 8 * i) 0
unfolding every_eighth
eighth_at zero k l i h = absurd (not-suc-le-zero h)
eighth_at (suc n) k l zero h = ap (λ (j : ℕ). get_or l j 0) (sym (add-zero k))
eighth_at (suc n) k l (suc i) h = eighth_at n (k + 8) l i (le_of_suc-le-suc h) ∙ ap (λ (j : ℕ). get_or l j 0) (omega arith)

pub take_eighth : (n m k : ℕ) (l : List ℕ) → n ≤ m → take n (every_eighth m k l) ≡ every_eighth n k l
unfolding every_eighth
take_eighth zero m k l h = refl
take_eighth (suc n) zero k l h = absurd (not-suc-le-zero h)
take_eighth (suc n) (suc m) k l h = ap (λ (t : List ℕ). get_or l k 0 ∷ t) (take_eighth n m (k + 8) l (le_of_suc-le-suc h))

pub eighth_bytes : (n k : ℕ) (l : List ℕ) → Bytes l → Bytes (every_eighth n k l)
unfolding every_eighth
eighth_bytes zero k l h = tt
eighth_bytes (suc n) k l h = (byte_at_lem l h k, eighth_bytes n (k + 8) l h)

-- two lists with the same bytes before index 1,912 have the same data
pub eighth_same : (k : ℕ) (l t : List ℕ) → k < 8 → ((i : ℕ) → i < 1912 → get_or l i 0 ≡ get_or t i 0) → every_eighth 239 k l ≡ every_eighth 239 k t
eighth_same k l t hk same =
    ext_get_or 0 (every_eighth 239 k l) (every_eighth 239 k t) (eighth_length 239 k l ∙ sym (eighth_length 239 k t))
    (λ i hi.
    let g : i < 239 = omega (arith, eighth_length 239 k l) in
    eighth_at 239 k l i g ∙ same (k + 8 * i) (omega arith) ∙ sym (eighth_at 239 k t i g))

-- ---- the coded payload, byte by byte

module _ (message : List ℕ) (long : length message ≡ 1912) where
  pub coded_length : length (coded_payload message) ≡ 2040
  unfolding coded_payload
  coded_length =
      length-append message (entries (parity_byte message) 0 128) ∙ ap₂ (λ (a b : ℕ). a + b) long (entries_length (parity_byte message) 0 128)

  pub coded_front : take 1912 (coded_payload message) ≡ message
  unfolding coded_payload
  coded_front = take_at message (entries (parity_byte message) 0 128) 1912 long

  coded_data : (i : ℕ) → i < 1912 → get_or (coded_payload message) i 0 ≡ get_or message i 0
  unfolding coded_payload
  coded_data i h = get_or-append message (entries (parity_byte message) 0 128) 0 i (omega arith)

  coded_parity : (q : ℕ) → q < 128 → get_or (coded_payload message) (1912 + q) 0 ≡ get_or (parity (every_eighth 239 (q % 8) message)) (q / 8) 0
  unfolding coded_payload parity_byte
  coded_parity q h =
      ap (λ (n : ℕ). get_or (message ++ entries (parity_byte message) 0 128) (n + q) 0) (sym long)
      ∙ get_or-append-add message (entries (parity_byte message) 0 128) q 0
      ∙ entries_at (parity_byte message) 0 128 q h ∙ ap (parity_byte message) (zero-add q)

pub coded_bytes : (message : List ℕ) → Bytes message → Bytes (coded_payload message)
unfolding coded_payload parity_byte
coded_bytes message h =
    bytes_append message (entries (parity_byte message) 0 128) h
    (bytes_entries (parity_byte message) 0 128
    (λ k l.
    let word = every_eighth 239 (k % 8) message in
    byte_at_lem (parity word) (parity_bytes word (eighth_bytes 239 (k % 8) message h)) (k / 8)))

-- a payload of 2,040 bytes is its data, coded, where each parity byte is that of its word
pub coded_by_places : (l : List ℕ) (message : List ℕ) → length l ≡ 2040 → length message ≡ 1912
    → ((i : ℕ) → i < 1912 → get_or l i 0 ≡ get_or message i 0)
    → ((k j : ℕ) → k < 8 → j < 16 → get_or l (1912 + k + 8 * j) 0 ≡ get_or (parity (every_eighth 239 k message)) j 0)
    → l ≡ coded_payload message
coded_by_places l message long short same parities =
    ext_get_or 0 l (coded_payload message) (long ∙ sym (coded_length message short))
    (λ i hi.
    ⊎_elim (λ less. same i less ∙ sym (coded_data message short i less))
    (λ more.
    let q = i - 1912 in
    let at : i ≡ 1912 + q % 8 + 8 * (q / 8) = omega arith in
    ap (λ (n : ℕ). get_or l n 0) at ∙ parities (q % 8) (q / 8) (mod-lt q (lit< tt)) (omega arith)
    ∙ sym (coded_parity message short q (omega arith)) ∙ ap (λ (n : ℕ). get_or (coded_payload message) n 0) (omega arith))
    (lt_or_ge i 1912))

-- ---- all eight words are codewords exactly where the payload is its data, coded

module _ (l : List ℕ) (k : ℕ) where
  abbrev word : List ℕ
  word = every_eighth 255 k l

  word_parity_at : (j : ℕ) → j < 16 → get_or word (239 + j) 0 ≡ get_or l (1912 + k + 8 * j) 0
  word_parity_at j h = eighth_at 255 k l (239 + j) (omega arith) ∙ ap (λ (n : ℕ). get_or l n 0) (omega arith)

  word_codeword : ((j : ℕ) → j < 16 → get_or l (1912 + k + 8 * j) 0 ≡ get_or (parity (every_eighth 239 k l)) j 0) → Codeword word
  word_codeword f =
      subst Codeword (lengthened_whole word (eighth_length 255 k l))
      (by_places word 239 (sym (eighth_length 255 k l)) (omega (arith, eighth_length 255 k l))
      (λ j h. ap (λ (q : List ℕ). get_or (parity q) j 0) (take_eighth 239 255 k l (lib.Dec.lit≤ tt)) ∙ sym (f j h) ∙ sym (word_parity_at j h)))

  of_word : Codeword word → (j : ℕ) → j < 16 → get_or l (1912 + k + 8 * j) 0 ≡ get_or (parity (every_eighth 239 k l)) j 0
  of_word c j h =
      sym (word_parity_at j h)
      ∙ sym (at_place word 239 (sym (eighth_length 255 k l)) (omega (arith, eighth_length 255 k l))
      (subst Codeword (sym (lengthened_whole word (eighth_length 255 k l))) c) j)
      ∙ ap (λ (q : List ℕ). get_or (parity q) j 0) (take_eighth 239 255 k l (lib.Dec.lit≤ tt))

-- what the test says of a payload
pub record Codewords (payload : List ℕ) : Type 0 where
  pub long : length payload ≡ 2040
  pub each : (k : ℕ) → k < 8 → Codeword (every_eighth 255 k payload)

pub codewords_true : (payload : List ℕ) → Codewords payload → are_codewords payload ≡ true
unfolding are_codewords
codewords_true payload c =
    both_true (eqb (length payload) 2040) (all_below 8 (λ k. is_codeword (every_eighth 255 k payload))) (eq-eqb (length payload) 2040 c.long)
    (all_below_lem 8 (λ k. is_codeword (every_eighth 255 k payload)) (λ k h. codeword_true (every_eighth 255 k payload) (c.each k h)))

pub true_codewords : (payload : List ℕ) → are_codewords payload ≡ true → Codewords payload
unfolding are_codewords
true_codewords payload e =
    let long = eqb (length payload) 2040 in
    let each = all_below 8 (λ k. is_codeword (every_eighth 255 k payload)) in
    record {
      long = eqb-true (length payload) 2040 (left_true long each e);
      each = λ k h. true_codeword (every_eighth 255 k payload) (below_true 8 (λ k. is_codeword (every_eighth 255 k payload)) (right_true long each e) k h);
    }

pub codewords_coded : (payload : List ℕ) → Codewords payload → payload ≡ coded_payload (take 1912 payload)
codewords_coded payload c =
    let message = take 1912 payload in
    let same : (i : ℕ) → i < 1912 → get_or payload i 0 ≡ get_or message i 0 = λ i h. sym (get_or-take 1912 payload i 0 h) in
    let short : length message ≡ 1912 = length-take-le 1912 payload (omega (arith, c.long)) in
    coded_by_places payload message c.long short same
    (λ k j hk hj. of_word payload k (c.each k hk) j hj ∙ ap (λ (q : List ℕ). get_or (parity q) j 0) (eighth_same k payload message hk same))

pub coded_codewords : (message : List ℕ) → length message ≡ 1912 → Codewords (coded_payload message)
coded_codewords message long = record {
  long = coded_length message long;
  each = λ k hk.
      word_codeword (coded_payload message) k (λ j hj.
      ap (λ (n : ℕ). get_or (coded_payload message) n 0) (omega arith)
      ∙ coded_parity message long (k + 8 * j) (omega arith)
      ∙ ap₂ (λ (m n : ℕ). get_or (parity (every_eighth 239 m message)) n 0) (omega arith) (omega arith)
      ∙ ap (λ (q : List ℕ). get_or (parity q) j 0) (eighth_same k message (coded_payload message) hk (λ i hi. sym (coded_data message long i hi))));
}
