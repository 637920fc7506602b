-- The eight words repaired one after the other give the payload as repaired; a word of which division leaves nothing stays as it is.
use mathlib.Core.Path.{◌≡◌, refl, sym, ap, ap₂, ◌∙◌, subst}
use mathlib.Core.Logic.{⊎_elim}
use mathlib.Core.Bool.{Bool, true, false, ◌&&◌}
use Rattle.std.specs.Prelude.{Option, None, Some}
use mathlib.Core.List.{List}
use Prim.Native.Nat.{ℕ, zero, suc, ◌+◌, ◌*◌, ◌/◌, ◌%◌, ◌≤◌, ◌<◌}
use native.Mathlib.Nat.{not-suc-le-zero, le_of_suc-le-suc, zero-add, eq-or-lt_of_le, mod-lt, le_refl}
use native.Mathlib.Numerals.{add-one}
use native.Mathlib.Omega.{arith}
use borrow.Author.Tests.{eqb-true, eqb-false}
use lib.Dec.{eqb, lit<, lit≤}
use lib.ListN.{length, get_or}
use lib.Seq.{ext_get_or}
use Rattle.basics.specs.Lists.{all_below}
use Rattle.basics.proofs.Lists.{entries_length, entries_at}
use Rattle.reed_solomon.specs.Payload.{every_eighth}
use Rattle.reed_solomon.specs.Rows.{spread}
use Rattle.reed_solomon.proofs.Laws.{true_codeword, codeword_length}
use Rattle.reed_solomon.proofs.Interleaved.{eighth_length, eighth_at}
use Rattle.reed_solomon.proofs.Spread.{spread_length, spread_at, spread_other}
use Rattle.nearest.specs.Near.{near_word, or_own, repaired_word}
use Rattle.nearest.proofs.Nearest.{near_is}
use Rattle.repairing.specs.Body.{repaired_byte, repaired_payload}
use Rattle.repairing.specs.Words.{with_word}

-- ---- one word

pub repaired_word_length : (word : List ℕ) → length word ≡ 255 → length (repaired_word word) ≡ 255
unfolding repaired_word
repaired_word_length word long = go (near_word word) refl
  where
    go : (near : Option (List ℕ)) → near_word word ≡ near → length (or_own (near_word word) word) ≡ 255
    go None e = ap (λ (near : Option (List ℕ)). length (or_own near word)) e ∙ long
    go (Some c) e =
        ap (λ (near : Option (List ℕ)). length (or_own near word)) e ∙ codeword_length c (true_codeword c (near_is word long c e).1)

pub word_length : (k : ℕ) (l : List ℕ) → length (repaired_word (every_eighth 255 k l)) ≡ 255
word_length k l = repaired_word_length (every_eighth 255 k l) (eighth_length 255 k l)

with_length : (k : ℕ) (l : List ℕ) → length (with_word k l) ≡ length l
unfolding with_word
with_length k l = spread_length (repaired_word (every_eighth 255 k l)) k l

-- a word that repair leaves as it is: the payload stays as it is
pub with_own : (k : ℕ) (l : List ℕ) → k < 8 → length l ≡ 2040 → repaired_word (every_eighth 255 k l) ≡ every_eighth 255 k l → with_word k l ≡ l
unfolding with_word
with_own k l hk long e =
    let own = every_eighth 255 k l in
    ap (λ (w : List ℕ). spread w k l) e
    ∙ ext_get_or 0 (spread own k l) l (spread_length own k l)
    (λ i h. go i (subst (λ (n : ℕ). i < n) (spread_length own k l ∙ long) h) (eqb (i % 8) k) refl)
  where
    go : (i : ℕ) → i < 2040 → (t : Bool) → eqb (i % 8) k ≡ t → get_or (spread (every_eighth 255 k l) k l) i 0 ≡ get_or l i 0
    go i h true t =
        let at : i ≡ k + 8 * (i / 8) = omega (arith, eqb-true (i % 8) k t) in
        let j : i / 8 < 255 = omega arith in
        ap (λ (n : ℕ). get_or (spread (every_eighth 255 k l) k l) n 0) at
        ∙ spread_at (every_eighth 255 k l) k l (i / 8) (omega (arith, eighth_length 255 k l)) (omega arith)
        ∙ eighth_at 255 k l (i / 8) j ∙ ap (λ (n : ℕ). get_or l n 0) (sym at)
    go i h false t = spread_other (every_eighth 255 k l) k l i (λ j e. eqb-false (i % 8) k t (omega arith))

-- ---- the words below n

unfoldable pub with_words : ℕ → List ℕ → List ℕ
with_words zero l = l
with_words (suc n) l = with_word n (with_words n l)

pub words_none : (l : List ℕ) → with_words 0 l ≡ l
unfolding with_words
words_none l = refl

pub words_more : (n : ℕ) (l : List ℕ) → with_word n (with_words n l) ≡ with_words (n + 1) l
unfolding with_words
words_more n l = ap (λ (k : ℕ). with_words k l) (sym (add-one n))

pub words_length : (n : ℕ) (l : List ℕ) → length (with_words n l) ≡ length l
unfolding with_words
words_length zero l = refl
words_length (suc n) l = with_length n (with_words n l) ∙ words_length n l

-- a word that is not reached yet is as it was
words_kept : (n k : ℕ) (l : List ℕ) (j : ℕ) → n ≤ k → k < 8 → get_or (with_words n l) (k + 8 * j) 0 ≡ get_or l (k + 8 * j) 0
unfolding with_words with_word
words_kept zero k l j hn hk = refl
words_kept (suc n) k l j hn hk =
    spread_other (repaired_word (every_eighth 255 n (with_words n l))) n (with_words n l) (k + 8 * j) (λ i e. absurd (omega arith))
    ∙ words_kept n k l j (omega arith) hk

pub word_kept : (k : ℕ) (l : List ℕ) → k < 8 → every_eighth 255 k (with_words k l) ≡ every_eighth 255 k l
word_kept k l hk =
    ext_get_or 0 (every_eighth 255 k (with_words k l)) (every_eighth 255 k l) (eighth_length 255 k (with_words k l) ∙ sym (eighth_length 255 k l))
    (λ i h.
    let short : i < 255 = subst (λ (m : ℕ). i < m) (eighth_length 255 k (with_words k l)) h in
    eighth_at 255 k (with_words k l) i short ∙ words_kept k k l i (le_refl k) hk ∙ sym (eighth_at 255 k l i short))

word_there : (l : List ℕ) → length l ≡ 2040 → (n k j : ℕ) → n ≤ 8 → k < n → j < 255
    → get_or (with_words n l) (k + 8 * j) 0 ≡ get_or (repaired_word (every_eighth 255 k l)) j 0
unfolding with_words with_word
word_there l long zero k j hn hk hj = absurd (not-suc-le-zero hk)
word_there l long (suc n) k j hn hk hj =
    let before = with_words n l in
    let word = repaired_word (every_eighth 255 n before) in
    ⊎_elim
    (λ e.
    ap (λ (i : ℕ). get_or (spread word n before) (i + 8 * j) 0) e
    ∙ spread_at word n before j (omega (arith, word_length n before)) (omega (arith, words_length n l))
    ∙ ap (λ (q : List ℕ). get_or (repaired_word q) j 0) (word_kept n l hn)
    ∙ ap (λ (i : ℕ). get_or (repaired_word (every_eighth 255 i l)) j 0) (sym e))
    (λ less. spread_other word n before (k + 8 * j) (λ i e. absurd (omega arith)) ∙ word_there l long n k j (omega arith) less hj)
    (eq-or-lt_of_le (le_of_suc-le-suc hk))

-- ---- all eight

pub payload_length : (l : List ℕ) → length (repaired_payload l) ≡ 2040
unfolding repaired_payload
payload_length l = entries_length (repaired_byte l) 0 2040

pub payload_at : (l : List ℕ) (i : ℕ) → i < 2040 → get_or (repaired_payload l) i 0 ≡ get_or (repaired_word (every_eighth 255 (i % 8) l)) (i / 8) 0
unfolding repaired_payload repaired_byte
payload_at l i h = entries_at (repaired_byte l) 0 2040 i h ∙ ap (repaired_byte l) (zero-add i)

pub all_words : (l : List ℕ) → length l ≡ 2040 → with_words 8 l ≡ repaired_payload l
all_words l long =
    ext_get_or 0 (with_words 8 l) (repaired_payload l) (words_length 8 l ∙ long ∙ sym (payload_length l))
    (λ i h.
    let short : i < 2040 = subst (λ (m : ℕ). i < m) (words_length 8 l ∙ long) h in
    let at : i ≡ i % 8 + 8 * (i / 8) = omega arith in
    ap (λ (n : ℕ). get_or (with_words 8 l) n 0) at
    ∙ word_there l long 8 (i % 8) (i / 8) (lit≤ tt) (mod-lt i (lit< tt)) (omega arith)
    ∙ sym (payload_at l i short))

-- word k of what was repaired is word k, repaired
pub eighth_repaired : (k : ℕ) (l : List ℕ) → k < 8 → every_eighth 255 k (repaired_payload l) ≡ repaired_word (every_eighth 255 k l)
eighth_repaired k l hk =
    ext_get_or 0 (every_eighth 255 k (repaired_payload l)) (repaired_word (every_eighth 255 k l))
    (eighth_length 255 k (repaired_payload l) ∙ sym (word_length k l))
    (λ i h.
    let short : i < 255 = subst (λ (n : ℕ). i < n) (eighth_length 255 k (repaired_payload l)) h in
    let a : (k + 8 * i) % 8 ≡ k = omega arith in
    let b : (k + 8 * i) / 8 ≡ i = omega arith in
    eighth_at 255 k (repaired_payload l) i short ∙ payload_at l (k + 8 * i) (omega arith)
    ∙ ap₂ (λ (m n : ℕ). get_or (repaired_word (every_eighth 255 m l)) n 0) a b)

-- whether a codeword was near each word so far
pub all_more : (f : ℕ → Bool) (k : ℕ) (found all : Bool) → found ≡ f k → all ≡ all_below k f → (all && found) ≡ all_below (k + 1) f
all_more f k found all e q =
    either all found ∙ ap₂ (λ (a b : Bool). a && b) e q ∙ ap (λ (n : ℕ). all_below n f) (sym (add-one k))
  where
    either : (a b : Bool) → (a && b) ≡ (b && a)
    either true true = refl
    either true false = refl
    either false true = refl
    either false false = refl
