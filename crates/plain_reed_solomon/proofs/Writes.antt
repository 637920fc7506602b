-- The eight writes of the plain form, one for each word, give the coded payload; and the word that it gathers is judged as the payload's.
use mathlib.Core.Path.{◌≡◌, refl, sym, ap, ◌∙◌, subst}
use mathlib.Core.Bool.{Bool, true, false, false≢true}
use mathlib.Core.Logic.{⊎_elim}
use mathlib.Core.List.{List}
use Prim.Native.Nat.{ℕ, zero, suc, ◌+◌, ◌*◌, ◌≤◌, ◌<◌}
use native.Mathlib.Nat.{zero-add, not-suc-le-zero, le_of_suc-le-suc, eq-or-lt_of_le}
use native.Mathlib.Numerals.{add-one}
use native.Mathlib.Omega.{arith}
use lib.Dec.{lit≤}
use Rattle.std.proofs.Common.{zero-le}
use Rattle.std.specs.Bool.{MatchBool}
use Rattle.std.specs.List.{AllWithin, HoldsAt, range_with_len}
use Rattle.std.proofs.lemmas.List.FromFn.{get_or-range_with_len}
use Rattle.basics.proofs.Tests.{never_true}
use lib.ListN.{length, get_or, take}
use lib.Seq.{length-take-le, get_or-take}
use Rattle.reed_solomon.specs.Code.{parity, is_codeword, lengthened}
use Rattle.reed_solomon.specs.Payload.{every_eighth, coded_payload, are_codewords}
use Rattle.reed_solomon.specs.Rows.{spread}
use Rattle.plain_reed_solomon.specs.Word.{with_parity}
use Rattle.reed_solomon.proofs.Laws.{parity_length, lengthened_whole, codeword_true, true_codeword}
use Rattle.reed_solomon.proofs.Interleaved.{eighth_length, eighth_same, coded_by_places, codewords_true, true_codewords}
use Rattle.reed_solomon.proofs.Spread.{spread_length, spread_below, spread_at, spread_other}

-- ---- the eight writes: the parities of the words below n are written

unfoldable pub with_parities : ℕ → List ℕ → List ℕ
with_parities zero l = l
with_parities (suc n) l = with_parity n (with_parities n l)

pub parities_none : (l : List ℕ) → with_parities 0 l ≡ l
unfolding with_parities
parities_none l = refl

pub parities_more : (n : ℕ) (l : List ℕ) → with_parity n (with_parities n l) ≡ with_parities (n + 1) l
unfolding with_parities
parities_more n l = ap (λ (k : ℕ). with_parities k l) (sym (add-one n))

pub parities_length : (n : ℕ) (l : List ℕ) → length (with_parities n l) ≡ length l
unfolding with_parities with_parity
parities_length zero l = refl
parities_length (suc n) l =
    spread_length (parity (every_eighth 239 n (with_parities n l))) (1912 + n) (with_parities n l) ∙ parities_length n l

data_kept : (n : ℕ) (l : List ℕ) (i : ℕ) → i < 1912 → get_or (with_parities n l) i 0 ≡ get_or l i 0
unfolding with_parities with_parity
data_kept zero l i h = refl
data_kept (suc n) l i h =
    spread_below (parity (every_eighth 239 n (with_parities n l))) (1912 + n) (with_parities n l) i (omega arith) ∙ data_kept n l i h

parity_there : (l : List ℕ) → length l ≡ 2040 → (n k j : ℕ) → n ≤ 8 → k < n → j < 16
    → get_or (with_parities n l) (1912 + k + 8 * j) 0 ≡ get_or (parity (every_eighth 239 k l)) j 0
unfolding with_parities with_parity
parity_there l long zero k j hn hk hj = absurd (not-suc-le-zero hk)
parity_there l long (suc n) k j hn hk hj =
    let before = with_parities n l in
    let p = parity (every_eighth 239 n before) in
    ⊎_elim
    (λ e.
    ap (λ (i : ℕ). get_or (spread p (1912 + n) before) (1912 + i + 8 * j) 0) e
    ∙ spread_at p (1912 + n) before j (omega (arith, parity_length (every_eighth 239 n before))) (omega (arith, parities_length n l))
    ∙ ap (λ (q : List ℕ). get_or (parity q) j 0) (eighth_same n before l hn (data_kept n l))
    ∙ ap (λ (i : ℕ). get_or (parity (every_eighth 239 i l)) j 0) (sym e))
    (λ less.
    spread_other p (1912 + n) before (1912 + k + 8 * j) (λ i e. absurd (omega arith)) ∙ parity_there l long n k j (omega arith) less hj)
    (eq-or-lt_of_le (le_of_suc-le-suc hk))

pub all_parities : (l : List ℕ) → length l ≡ 2040 → with_parities 8 l ≡ coded_payload (take 1912 l)
all_parities l long =
    let message = take 1912 l in
    let same : (i : ℕ) → i < 1912 → get_or l i 0 ≡ get_or message i 0 = λ i h. sym (get_or-take 1912 l i 0 h) in
    coded_by_places (with_parities 8 l) message (parities_length 8 l ∙ long) (length-take-le 1912 l (omega arith))
    (λ i h. data_kept 8 l i h ∙ same i h)
    (λ k j hk hj.
    parity_there l long 8 k j (lit≤ tt) hk hj ∙ ap (λ (q : List ℕ). get_or (parity q) j 0) (eighth_same k l message hk same))

-- the word that is gathered, as it is judged
pub in_code : (l : List ℕ) (k : ℕ) (gathered : List ℕ) → gathered ≡ every_eighth 255 k l
    → is_codeword (lengthened gathered) ≡ is_codeword (every_eighth 255 k l)
in_code l k gathered e = ap is_codeword (ap lengthened e ∙ lengthened_whole (every_eighth 255 k l) (eighth_length 255 k l))

-- a test of each of the eight words, as code makes it
pub codewords_test : (r : Bool) (l : List ℕ) → length l ≡ 2040
    → MatchBool r (AllWithin (λ k. is_codeword (every_eighth 255 k l) ≡ true) (range_with_len 0 8) 0 8)
    ((k : ℕ) × (k < 8) × HoldsAt (λ k. is_codeword (every_eighth 255 k l) ≡ false) (range_with_len 0 8) k)
    → r ≡ are_codewords l
codewords_test true l long all =
    sym (codewords_true l (record {
      long = long;
      each = λ k h.
          true_codeword _
          (subst (λ (j : ℕ). is_codeword (every_eighth 255 j l) ≡ true) (get_or-range_with_len 0 8 k 0 h ∙ zero-add k) (all k 0 zero-le h));
    }))
codewords_test false l long some =
    let k = some.0 in
    let none : is_codeword (every_eighth 255 k l) ≡ false =
    subst (λ (j : ℕ). is_codeword (every_eighth 255 j l) ≡ false) (get_or-range_with_len 0 8 k 0 some.1 ∙ zero-add k) (some.2 0) in
    never_true (are_codewords l) (λ e. false≢true (sym none ∙ codeword_true _ ((true_codewords l e).each k some.1)))
