-- What division leaves of a word is the parity of its data and its own last 16 bytes, added; so it is for each word of a payload.
use mathlib.Core.Path.{◌≡◌, sym, ap, ◌∙◌, subst}
use mathlib.Core.List.{List}
use Prim.Native.Nat.{ℕ, ◌+◌, ◌-◌, ◌*◌, ◌/◌, ◌%◌, ◌≤◌, ◌<◌}
use native.Mathlib.Nat.{zero-add, mod-lt}
use native.Mathlib.Omega.{arith}
use lib.Bits.{bit_xor}
use lib.Dec.{lit<, lit≤}
use lib.ListN.{length, get_or, take, drop, length-drop}
use lib.Seq.{ext_get_or, get_or-drop, get_or-take}
use Rattle.basics.specs.Lists.{entries}
use Rattle.basics.proofs.Lists.{entries_length, entries_at}
use Rattle.division.specs.Division.{plus}
use Rattle.division.proofs.Register.{plus_length, plus_get_or}
use Rattle.reed_solomon.specs.Code.{parity, remainder_of, lengthened}
use Rattle.reed_solomon.specs.Payload.{every_eighth, parity_byte}
use Rattle.reed_solomon.specs.Rows.{remainder_byte}
use Rattle.reed_solomon.proofs.Laws.{parity_length, parity_zeros, divided, lengthened_whole, front, parts, front_length, back_length}
use Rattle.reed_solomon.proofs.Interleaved.{eighth_length, eighth_at, take_eighth, eighth_same}

module _ (word : List ℕ) (n : ℕ) (e : n + 16 ≡ length word) (h : length word ≤ 255) where
  pub remainder_is : remainder_of (lengthened word) ≡ plus (parity (take n word)) (drop n word)
  remainder_is =
      ap remainder_of (parts word n e h)
      ∙ divided (front word n e h) (drop n word) (front_length word n e h) (back_length word n e h)
      ∙ ap (λ (p : List ℕ). plus p (drop n word)) (parity_zeros (255 - length word) (take n word))

  pub remainder_length : length (remainder_of (lengthened word)) ≡ 16
  remainder_length = ap length remainder_is ∙ plus_length (parity (take n word)) (drop n word) 16 (parity_length (take n word)) (back_length word n e h)

  pub remainder_at : (j : ℕ) → get_or (remainder_of (lengthened word)) j 0 ≡ bit_xor (get_or (parity (take n word)) j 0) (get_or word (n + j) 0)
  remainder_at j =
      ap (λ (l : List ℕ). get_or l j 0) remainder_is ∙ plus_get_or (parity (take n word)) (drop n word) j
      ∙ ap (bit_xor (get_or (parity (take n word)) j 0)) (get_or-drop n word j 0)

pub whole_remainder_length : (word : List ℕ) → length word ≡ 255 → length (remainder_of word) ≡ 16
whole_remainder_length word long =
    ap (λ (w : List ℕ). length (remainder_of w)) (sym (lengthened_whole word long)) ∙ remainder_length word 239 (sym long) (omega arith)

-- ---- the words of a payload

module _ (payload : List ℕ) (k : ℕ) where
  abbrev word : List ℕ
  word = every_eighth 255 k payload

  whole : 239 + 16 ≡ length word
  whole = sym (eighth_length 255 k payload)

  fits : length word ≤ 255
  fits = omega (arith, eighth_length 255 k payload)

  word_whole : lengthened word ≡ word
  word_whole = lengthened_whole word (eighth_length 255 k payload)

  pub word_remainder_length : length (remainder_of word) ≡ 16
  word_remainder_length = whole_remainder_length word (eighth_length 255 k payload)

  pub word_remainder_at : (j : ℕ) → j < 16
      → get_or (remainder_of word) j 0 ≡ bit_xor (get_or (parity (every_eighth 239 k payload)) j 0) (get_or payload (1912 + (k + 8 * j)) 0)
  word_remainder_at j h =
      ap (λ (w : List ℕ). get_or (remainder_of w) j 0) (sym word_whole) ∙ remainder_at word 239 whole fits j
      ∙ ap (λ (w : List ℕ). bit_xor (get_or (parity w) j 0) (get_or word (239 + j) 0)) (take_eighth 239 255 k payload (lit≤ tt))
      ∙ ap (bit_xor (get_or (parity (every_eighth 239 k payload)) j 0))
      (eighth_at 255 k payload (239 + j) (omega arith) ∙ ap (λ (i : ℕ). get_or payload i 0) (omega arith))

-- a byte of the remainders, as the code finds it: of the parity bytes and of the payload's last 128
pub remainder_byte_lem : (payload : List ℕ) → length payload ≡ 2040 → (i : ℕ) → i < 128
    → bit_xor (get_or (entries (parity_byte (take 1912 payload)) 0 128) i 0) (get_or payload (1912 + i) 0) ≡ remainder_byte payload i
unfolding remainder_byte parity_byte
remainder_byte_lem payload long i h =
    let k = i % 8 in
    let j = i / 8 in
    let k-low : k < 8 = mod-lt i (lit< tt) in
    let j-low : j < 16 = omega arith in
    let at : i ≡ k + 8 * j = omega arith in
    let same : every_eighth 239 k (take 1912 payload) ≡ every_eighth 239 k payload =
    eighth_same k (take 1912 payload) payload k-low (λ m hm. get_or-take 1912 payload m 0 hm) in
    ap (λ (b : ℕ). bit_xor b (get_or payload (1912 + i) 0))
    (entries_at (parity_byte (take 1912 payload)) 0 128 i h ∙ ap (parity_byte (take 1912 payload)) (zero-add i)
    ∙ ap (λ (w : List ℕ). get_or (parity w) j 0) same)
    ∙ ap (λ (m : ℕ). bit_xor (get_or (parity (every_eighth 239 k payload)) j 0) (get_or payload (1912 + m) 0)) at
    ∙ sym (word_remainder_at payload k j j-low)

pub remainders_are : (payload : List ℕ) → length payload ≡ 2040
    → plus (entries (parity_byte (take 1912 payload)) 0 128) (drop 1912 payload) ≡ entries (remainder_byte payload) 0 128
remainders_are payload long =
    let parity = entries (parity_byte (take 1912 payload)) 0 128 in
    let last = drop 1912 payload in
    let size : length last ≡ 128 = simp length-drop (omega arith) in
    let sum_size = plus_length parity last 128 (entries_length (parity_byte (take 1912 payload)) 0 128) size in
    ext_get_or 0 (plus parity last) (entries (remainder_byte payload) 0 128) (sum_size ∙ sym (entries_length (remainder_byte payload) 0 128))
    (λ i h.
    let short : i < 128 = omega arith in
    plus_get_or parity last i ∙ ap (bit_xor (get_or parity i 0)) (get_or-drop 1912 payload i 0) ∙ remainder_byte_lem payload long i short
    ∙ sym (entries_at (remainder_byte payload) 0 128 i short ∙ ap (remainder_byte payload) (zero-add i)))

-- word k's remainder is every eighth byte of them
pub remainder_of_word : (payload : List ℕ) (k : ℕ) → k < 8
    → every_eighth 16 k (entries (remainder_byte payload) 0 128) ≡ remainder_of (every_eighth 255 k payload)
unfolding remainder_byte
remainder_of_word payload k hk =
    let all = entries (remainder_byte payload) 0 128 in
    ext_get_or 0 (every_eighth 16 k all) (remainder_of (every_eighth 255 k payload)) (eighth_length 16 k all ∙ sym (word_remainder_length payload k))
    (λ j h.
    let short : j < 16 = subst (λ (n : ℕ). j < n) (eighth_length 16 k all) h in
    let a : (k + 8 * j) % 8 ≡ k = omega arith in
    let b : (k + 8 * j) / 8 ≡ j = omega arith in
    eighth_at 16 k all j short ∙ entries_at (remainder_byte payload) 0 128 (k + 8 * j) (omega arith)
    ∙ ap (remainder_byte payload) (zero-add (k + 8 * j))
    ∙ mathlib.Core.Path.ap₂ (λ (m n : ℕ). get_or (remainder_of (every_eighth 255 m payload)) n 0) a b)
