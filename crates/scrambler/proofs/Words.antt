-- Words of the key are added to bytes: in one stretch, and stretch after stretch.
use mathlib.Core.Path.{◌≡◌, refl, sym, ap, ap₂, ◌∙◌}
use mathlib.Core.List.{List, ◌++◌, append_assoc}
use Prim.Native.Nat.{ℕ, zero, suc, ◌+◌, ◌*◌, ◌/◌, ◌%◌, ◌^◌, ◌≤◌, ◌<◌}
use native.Mathlib.Nat.{not-suc-le-zero, le_of_suc-le-suc, mod-lt, add-zero, zero-add, add-suc, suc-add}
use native.Mathlib.Omega.{arith}
use lib.Dec.{lit<}
use lib.Bits.{bit_xor}
use lib.ListN.{length, get_or, set, take, drop, length-set, length-append, length-drop, take-append-drop}
use lib.Seq.{length-take-le, take_at, drop_at}
use borrow.Rule.Slice.PartMut.{mid_of, post_of, put_mid, same_len_mid}
use Rattle.basics.specs.Lists.{zeros}
use Rattle.basics.proofs.Lists.{zeros_length}
use Rattle.basics.proofs.Numbers.{byte_at}
use Rattle.lent.specs.Written.{written}
use Rattle.lent.specs.Numbers.{bytes_of}
use Rattle.lent.proofs.Written.{written_whole}
use Rattle.lent.proofs.Bytes.{bytes_at, bytes_length}
use Rattle.scrambler.specs.Scrambler.{after, first_stages, scrambled, key_byte}
use Rattle.scrambler.specs.Keys.{scrambled_from, key_number, places_from, Holds, Extends, Moved, Added}
use Rattle.scrambler.proofs.Stages.{after_add}
use Rattle.scrambler.proofs.KeyBytes.{key_byte_lem, scrambled_stages}
use Rattle.scrambler.proofs.Steps.{bytes_turn, bytes_end}
use Rattle.scrambler.proofs.Laws.{scrambled_from_length, scrambled_append}
use Rattle.scrambler.proofs.Follows.{key_byte_lt, words_from}
use Rattle.scrambler.proofs.Holds.{holds_same, holds_front, words_next}

-- the stages when i bytes of the key are out
abbrev stages_at : ℕ → ℕ → ℕ
stages_at taps i = after taps (8 * i) first_stages

pub stages_later : (taps i n : ℕ) → stages_at taps (i + n) ≡ after taps (8 * n) (stages_at taps i)
stages_later taps i n =
    let e : 8 * (i + n) ≡ 8 * i + 8 * n = omega arith in
    ap (λ (k : ℕ). after taps k first_stages) e ∙ after_add taps (8 * i) (8 * n) first_stages

-- ---- the bytes of the words

key_number_byte : (taps n i k : ℕ) → k < n → byte_at k (key_number taps n i) ≡ key_byte taps (i + k)
unfolding key_number
key_number_byte taps zero i k h = absurd (not-suc-le-zero h)
key_number_byte taps (suc n) i zero h = omega (arith, key_byte_lt taps i) ∙ ap (key_byte taps) (sym (add-zero i))
key_number_byte taps (suc n) i (suc k) h =
    let e : (key_number taps n (suc i) * 2 ^ 8 + key_byte taps i) / 256 ≡ key_number taps n (suc i) = omega (arith, key_byte_lt taps i) in
    ap (byte_at k) e ∙ key_number_byte taps n (suc i) k (le_of_suc-le-suc h) ∙ ap (key_byte taps) (suc-add i k ∙ sym (add-suc i k))

words_byte : (taps at : ℕ) (words : List ℕ) → Holds (words_from taps at) 50 words → (i : ℕ) → i < 400 → get_or (bytes_of words) i 0 ≡ key_byte taps (at + i)
words_byte taps at words h i hi =
    let e : i ≡ 8 * (i / 8) + i % 8 = omega arith in
    let p : at + 8 * (i / 8) + i % 8 ≡ at + i = omega arith in
    ap (λ (j : ℕ). get_or (bytes_of words) j 0) e ∙ bytes_at words (i / 8) (i % 8) (mod-lt i (lit< tt))
    ∙ ap (byte_at (i % 8)) (h.at (i / 8) (omega arith)) ∙ key_number_byte taps 8 (at + 8 * (i / 8)) (i % 8) (mod-lt i (lit< tt)) ∙ ap (key_byte taps) p

-- ---- `add_words`: i bytes are done

pub record Adding (words before key : List ℕ) (i : ℕ) (bytes : List ℕ) : Type 0 where
  pub same : length bytes ≡ length before
  pub few : length before ≤ 400
  pub size : length key ≡ 400
  pub key_is : key ≡ bytes_of words
  pub so_far : (taps at : ℕ) → Holds (words_from taps at) 50 words
      → take i bytes ++ scrambled_from taps (stages_at taps (at + i)) (drop i bytes) ≡ scrambled_from taps (stages_at taps at) before

pub adding_start : {words bytes key : List ℕ} → length words ≡ 50 → length bytes ≤ 400 → key ≡ written (zeros 400) 0 (bytes_of words)
    → Adding words bytes key 0 bytes
adding_start {words} {bytes} {key} long few e =
    let size : length (bytes_of words) ≡ 400 = bytes_length words ∙ ap (λ (n : ℕ). 8 * n) long in
    let whole : key ≡ bytes_of words = e ∙ written_whole (zeros 400) (bytes_of words) (size ∙ sym (zeros_length 400)) in
    record {
      same = refl;
      few = few;
      size = ap length whole ∙ size;
      key_is = whole;
      so_far = λ taps at h. ap (λ (n : ℕ). scrambled_from taps (stages_at taps n) bytes) (add-zero at);
    }

module _ {words before key bytes : List ℕ} {i : ℕ} (s : Adding words before key i bytes) where
  pub adding_turn : i < length bytes → Adding words before key (i + 1) (set bytes i (bit_xor (get_or bytes i 0) (get_or key i 0)))
  adding_turn h =
      let x = bit_xor (get_or bytes i 0) (get_or key i 0) in
      record {
        same = length-set bytes i x ∙ s.same;
        few = s.few;
        size = s.size;
        key_is = s.key_is;
        so_far = λ taps at there.
            let e : at + (i + 1) ≡ at + i + 1 = omega arith in
            let read = ap (λ (l : List ℕ). get_or l i 0) s.key_is ∙ words_byte taps at words there i (omega (arith, s.same, s.few)) in
            bytes_turn taps (stages_at taps (at + i)) bytes i x (stages_at taps (at + (i + 1))) h
            (ap (bit_xor (get_or bytes i 0)) (read ∙ key_byte_lem taps (at + i)))
            (ap (stages_at taps) e ∙ stages_later taps (at + i) 1)
            ∙ s.so_far taps at there;
      }

  pub adding_end : length bytes ≤ i → Added words before bytes
  adding_end h = record {
    scrambles = λ taps at there. sym (bytes_end taps (stages_at taps (at + i)) bytes i h) ∙ s.so_far taps at there;
  }

-- the words that are read are the first 50
pub added_front : {words before sum : List ℕ} → Added (take 50 words) before sum → Added words before sum
added_front added = record { scrambles = λ taps at there. added.scrambles taps at (holds_front 50 there) }

-- ---- `scramble`: the bytes before index at are done

pub stretch_length : (at k : ℕ) (bytes : List ℕ) → at + k ≤ length bytes → length (mid_of at k bytes) ≡ k
stretch_length at k bytes room = length-take-le k (drop at bytes) (omega (arith, length-drop at bytes))

added_length : (taps at : ℕ) {words before sum : List ℕ} → Holds (words_from taps at) 50 words → Added words before sum → length sum ≡ length before
added_length taps at {words} {before} there added =
    ap length (added.scrambles taps at there) ∙ scrambled_from_length taps (stages_at taps at) before

-- k bytes from there on are scrambled by words
stretch : (taps at k : ℕ) (bytes words sum : List ℕ) → at + k ≤ length bytes → Holds (words_from taps at) 50 words → Added words (mid_of at k bytes) sum
    → take (at + k) (put_mid at k bytes sum) ++ scrambled_from taps (stages_at taps (at + k)) (drop (at + k) (put_mid at k bytes sum))
    ≡ take at bytes ++ scrambled_from taps (stages_at taps at) (drop at bytes)
stretch taps at k bytes words sum room there added =
    let front = take at bytes in
    let middle = mid_of at k bytes in
    let rest = post_of at k bytes in
    let now = stages_at taps at in
    let scrambles : sum ≡ scrambled_from taps now middle = added.scrambles taps at there in
    let size : length middle ≡ k = stretch_length at k bytes room in
    let long : length (front ++ sum) ≡ at + k =
    length-append front sum
    ∙ ap₂ (λ (a b : ℕ). a + b) (length-take-le at bytes (omega arith)) (added_length taps at there added ∙ size) in
    ap₂ (λ (a b : List ℕ). a ++ scrambled_from taps (stages_at taps (at + k)) b)
    (ap (take (at + k)) (sym (append_assoc front sum rest)) ∙ take_at (front ++ sum) rest (at + k) long)
    (ap (drop (at + k)) (sym (append_assoc front sum rest)) ∙ drop_at (front ++ sum) rest (at + k) long)
    ∙ append_assoc front sum (scrambled_from taps (stages_at taps (at + k)) rest)
    ∙ ap (λ (l : List ℕ). front ++ l)
    (ap₂ (λ (a : List ℕ) (s : ℕ). a ++ scrambled_from taps s rest) scrambles (stages_later taps at k ∙ ap (λ (n : ℕ). after taps (8 * n) now) (sym size))
    ∙ sym (scrambled_append taps now middle rest) ∙ ap (scrambled_from taps now) (take-append-drop k (drop at bytes)))

pub record Scrambling (taps : ℕ) (before : List ℕ) (at : ℕ) (bytes words : List ℕ) : Type 0 where
  pub same : length bytes ≡ length before
  pub key : Holds (words_from taps at) 50 words
  pub so_far : take at bytes ++ scrambled_from taps (stages_at taps at) (drop at bytes) ≡ scrambled taps before

pub scrambling_start : {taps : ℕ} {bytes words : List ℕ} → Holds (λ k. key_number taps 8 (8 * k)) 50 words → Scrambling taps bytes 0 bytes words
unfolding after
scrambling_start {taps} {bytes} h = record {
  same = refl;
  key = holds_same (λ k. ap (key_number taps 8) (sym (zero-add (8 * k)))) h;
  so_far = sym (scrambled_stages taps bytes);
}

pub scrambling_same : {taps at place : ℕ} {before bytes now words key : List ℕ} → Scrambling taps before at bytes words
    → at ≡ place → now ≡ bytes → key ≡ words → Scrambling taps before place now key
scrambling_same s e f g = rw (f, g, ← e) s

module _ {taps at : ℕ} {before bytes words : List ℕ} (s : Scrambling taps before at bytes words) where
  pub scrambling_turn : (k : ℕ) {sum more later : List ℕ} → k ≡ 400 → at + k ≤ length bytes → Added words (mid_of at k bytes) sum
      → Extends 2 (places_from 25 0 taps) words more → Moved more later
      → Scrambling taps before (at + 400) (put_mid at k bytes sum) later
  scrambling_turn k {sum} e room added x m =
      let next = put_mid at k bytes sum in
      record {
        same = same_len_mid at k bytes sum (added_length taps at s.key added) ∙ s.same;
        key = words_next taps at x m s.key;
        so_far = ap (λ (n : ℕ). take (at + n) next ++ scrambled_from taps (stages_at taps (at + n)) (drop (at + n) next)) (sym e)
            ∙ stretch taps at k bytes words sum room s.key added ∙ s.so_far;
      }

  pub scrambling_end : (k : ℕ) {sum : List ℕ} → at + k ≡ length bytes → Added words (mid_of at k bytes) sum
      → put_mid at k bytes sum ≡ scrambled taps before
  scrambling_end k {sum} e added =
      let all : length (put_mid at k bytes sum) ≡ length bytes = same_len_mid at k bytes sum (added_length taps at s.key added) in
      sym (bytes_end taps (stages_at taps (at + k)) (put_mid at k bytes sum) (at + k) (omega arith))
      ∙ stretch taps at k bytes words sum (omega arith) s.key added ∙ s.so_far
