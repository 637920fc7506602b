-- The register of the code, as a loop feeds it; a word is a codeword exactly where its last 16 bytes are the parity of the others; zeros in front.
use mathlib.Core.Path.{◌≡◌, refl, sym, ap, ap₂, ◌∙◌, subst}
use mathlib.Core.Bool.{true}
use mathlib.Core.List.{List, [], ◌∷◌, ◌++◌, tail, append_assoc}
use Prim.Native.Nat.{ℕ, ◌+◌, ◌-◌, ◌≤◌, ◌<◌}
use native.Mathlib.Omega.{arith}
use lib.Dec.{eqb}
use borrow.Author.Tests.{eq-eqb, eqb-true}
use lib.ListN.{length, get_or, length-append, take, drop, length-drop, take-append-drop}
use lib.Seq.{length-take-le, ext_get_or, get_or-drop, take_at, drop_at}
use Rattle.basics.specs.Lists.{zeros, same}
use Rattle.basics.proofs.Tests.{both_true, left_true, right_true, same_true, same_self, is_same}
use Rattle.basics.proofs.Lists.{zeros_length}
use Rattle.field.specs.Field.{times}
use Rattle.field.proofs.Laws.{zero_times, times_xor_left}
use Rattle.division.specs.Division.{plus, remainder}
use Rattle.division.specs.Register.{step, feed}
use Rattle.division.proofs.Register.{step_length, feed_length, feed_turn, feed_end, check_feed, word_remainder, plus_self, plus_zero_eq, check_zeros}
use Rattle.division.proofs.Linear.{check_plus}
use Rattle.reed_solomon.specs.Code.{generator, parity, remainder_of, is_codeword, lengthened}
use Rattle.reed_solomon.proofs.Factors.{generator_is}

pub generator_length : length (tail generator) ≡ 16
generator_length = ap (λ (l : List ℕ). length (tail l)) generator_is

-- ---- a register of 16 places, over any product: that of one word's bytes, and that of eight words' at once

pub step_long : (times : ℕ → ℕ → ℕ) (register : List ℕ) (row : ℕ) → length register ≡ 16 → length (step times (tail generator) register row) ≡ 16
step_long times register row long = step_length times (tail generator) register row (long ∙ sym generator_length) ∙ generator_length

pub fed_length : (times : ℕ → ℕ → ℕ) (message : List ℕ) → length (feed times (tail generator) (zeros 16) message) ≡ 16
fed_length times message = feed_length times (tail generator) (zeros 16) message (sym generator_length) ∙ generator_length

-- one row more
pub feed_behind : (times : ℕ → ℕ → ℕ) (g s rows : List ℕ) (row : ℕ) → feed times g s (rows ++ row ∷ []) ≡ step times g (feed times g s rows) row
unfolding feed
feed_behind times g s [] row = refl
feed_behind times g s (x ∷ rows) row = feed_behind times g (step times g s x) rows row

-- a loop: i coefficients of a message are in a register that began with zeros
pub record Fed (times : ℕ → ℕ → ℕ) (message : List ℕ) (i : ℕ) (register : List ℕ) : Type 0 where
  pub long : length register ≡ 16
  pub rest : feed times (tail generator) register (drop i message) ≡ feed times (tail generator) (zeros 16) message

pub fed_start : (times : ℕ → ℕ → ℕ) (message : List ℕ) → Fed times message 0 (zeros 16)
fed_start times message = record { long = refl; rest = refl }

pub fed_turn : {times : ℕ → ℕ → ℕ} {message : List ℕ} {i : ℕ} {register next : List ℕ} → Fed times message i register → i < length message
    → next ≡ step times (tail generator) register (get_or message i 0) → Fed times message (i + 1) next
fed_turn {times} {message} {i} {register} fed h e = record {
  long = ap length e ∙ step_long times register (get_or message i 0) fed.long;
  rest = ap (λ (r : List ℕ). feed times (tail generator) r (drop (i + 1) message)) e
      ∙ sym (feed_turn times (tail generator) register message i h) ∙ fed.rest;
}

pub fed_all : {times : ℕ → ℕ → ℕ} {message : List ℕ} {i : ℕ} {register : List ℕ} → Fed times message i register → length message ≤ i
    → register ≡ feed times (tail generator) (zeros 16) message
fed_all {times} {message} {i} {register} fed h = sym (feed_end times (tail generator) register message i h) ∙ fed.rest

-- ---- parity

-- what a register of zeros holds after the message
pub parity_feed : (message : List ℕ) → parity message ≡ feed times (tail generator) (zeros 16) message
unfolding parity
parity_feed message = check_feed times (tail generator) message 15 generator_length

pub parity_length : (message : List ℕ) → length (parity message) ≡ 16
parity_length message = ap length (parity_feed message) ∙ fed_length times message

-- zeros in front of a message change nothing
pub parity_zeros : (n : ℕ) (message : List ℕ) → parity (zeros n ++ message) ≡ parity message
unfolding parity
parity_zeros n message = check_zeros times zero_times (tail generator) message n 15 generator_length

-- the parity of a sum is the sum of the parities
pub parity_plus : (m n : List ℕ) → length m ≡ length n → parity (plus m n) ≡ plus (parity m) (parity n)
unfolding parity
parity_plus m n e = check_plus times times_xor_left (tail generator) m n e

-- ---- codewords

-- what the test says of a word
unfoldable pub Codeword : List ℕ → Type 0
Codeword word = (length word ≡ 255) × (remainder_of word ≡ zeros 16)

pub codeword_true : (word : List ℕ) → Codeword word → is_codeword word ≡ true
unfolding Codeword is_codeword
codeword_true word c =
    both_true (eqb (length word) 255) (same (remainder_of word) (zeros 16)) (eq-eqb (length word) 255 c.0)
    (subst (λ (l : List ℕ). same l (zeros 16) ≡ true) (sym c.1) (same_self (zeros 16)))

pub true_codeword : (word : List ℕ) → is_codeword word ≡ true → Codeword word
unfolding Codeword is_codeword
true_codeword word e =
    let long = eqb (length word) 255 in
    let none = same (remainder_of word) (zeros 16) in
    (eqb-true (length word) 255 (left_true long none e), same_true (remainder_of word) (zeros 16) (right_true long none e))

pub codeword_length : (word : List ℕ) → Codeword word → length word ≡ 255
unfolding Codeword
codeword_length word c = c.0

module _ (m p : List ℕ) (hm : length m ≡ 239) (hp : length p ≡ 16) where
  pub divided : remainder_of (m ++ p) ≡ plus (parity m) p
  unfolding parity
  divided =
      ap (λ (n : ℕ). remainder times (tail generator) n (m ++ p)) (sym hm)
      ∙ word_remainder times (tail generator) m p 15 generator_length hp

  pub codeword_of : parity m ≡ p → Codeword (m ++ p)
  unfolding Codeword
  codeword_of e =
      (length-append m p ∙ ap₂ (λ (a b : ℕ). a + b) hm hp, divided ∙ ap (λ (l : List ℕ). plus l p) e ∙ plus_self p ∙ ap zeros hp)

  pub of_codeword : Codeword (m ++ p) → parity m ≡ p
  unfolding Codeword
  of_codeword c = plus_zero_eq (parity m) p (parity_length m ∙ sym hp) (sym divided ∙ c.1 ∙ ap zeros (sym hp))

-- ---- a word of n bytes of data and 16 of parity, with the zeros in front that are not sent

pub too_long : (word : List ℕ) → 255 < length word → Codeword (lengthened word) → ⊥
unfolding lengthened
too_long word h c = omega (arith, codeword_length (zeros (255 - length word) ++ word) c, length-append (zeros (255 - length word)) word)

pub lengthened_whole : (word : List ℕ) → length word ≡ 255 → lengthened word ≡ word
unfolding lengthened
lengthened_whole word e = ap (λ (n : ℕ). zeros (255 - n) ++ word) e

module _ (word : List ℕ) (n : ℕ) (e : n + 16 ≡ length word) (h : length word ≤ 255) where
  abbrev pub front : List ℕ
  front = zeros (255 - length word) ++ take n word

  pub parts : lengthened word ≡ front ++ drop n word
  unfolding lengthened
  parts =
      ap (λ (l : List ℕ). zeros (255 - length word) ++ l) (sym (take-append-drop n word))
      ∙ sym (append_assoc (zeros (255 - length word)) (take n word) (drop n word))

  pub front_length : length front ≡ 239
  front_length =
      length-append (zeros (255 - length word)) (take n word)
      ∙ ap₂ (λ (a b : ℕ). a + b) (zeros_length (255 - length word)) (length-take-le n word (omega arith)) ∙ omega arith

  pub back_length : length (drop n word) ≡ 16
  back_length = length-drop n word ∙ omega arith

  pub shorter_codeword : parity (take n word) ≡ drop n word → Codeword (lengthened word)
  shorter_codeword q =
      subst Codeword (sym parts) (codeword_of front (drop n word) front_length back_length (parity_zeros (255 - length word) (take n word) ∙ q))

  pub of_shorter : Codeword (lengthened word) → parity (take n word) ≡ drop n word
  of_shorter c =
      sym (parity_zeros (255 - length word) (take n word)) ∙ of_codeword front (drop n word) front_length back_length (subst Codeword parts c)

  -- the same, place by place
  pub by_places : ((k : ℕ) → k < 16 → get_or (parity (take n word)) k 0 ≡ get_or word (n + k) 0) → Codeword (lengthened word)
  by_places f =
      shorter_codeword (ext_get_or 0 (parity (take n word)) (drop n word) (parity_length (take n word) ∙ sym back_length)
      (λ k hk. f k (subst (λ (i : ℕ). k < i) (parity_length (take n word)) hk) ∙ sym (get_or-drop n word k 0)))

  pub at_place : Codeword (lengthened word) → (k : ℕ) → get_or (parity (take n word)) k 0 ≡ get_or word (n + k) 0
  at_place c k = ap (λ (l : List ℕ). get_or l k 0) (of_shorter c) ∙ get_or-drop n word k 0

-- the code's test: the last 16 bytes are compared
pub codeword_same : (word : List ℕ) (n : ℕ) → n + 16 ≡ length word → length word ≤ 255
    → is_codeword (lengthened word) ≡ same (drop n word) (parity (take n word))
codeword_same word n e h =
    is_same (is_codeword (lengthened word)) (drop n word) (parity (take n word))
    (λ t. sym (of_shorter word n e h (true_codeword (lengthened word) t)))
    (λ q. codeword_true (lengthened word) (shorter_codeword word n e h (sym q)))

-- data of at most 239 bytes with its parity is a codeword
pub coded : (message : List ℕ) → length message ≤ 239 → Codeword (lengthened (message ++ parity message))
coded message h =
    let p = parity message in
    let whole : length message + 16 ≡ length (message ++ p) = omega (arith, length-append message p, parity_length message) in
    shorter_codeword (message ++ p) (length message) whole (omega arith)
    (ap parity (take_at message p (length message) refl) ∙ sym (drop_at message p (length message) refl))
