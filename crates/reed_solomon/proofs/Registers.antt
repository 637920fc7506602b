-- Eight registers at once: byte k of what they hold is what the register of word k would hold by itself.
use mathlib.Core.Path.{◌≡◌, refl, sym, ap, ap₂, ◌∙◌, subst}
use mathlib.Core.List.{List, [], ◌∷◌, ◌++◌, tail, map}
use Prim.Native.Nat.{ℕ, zero, suc, ◌<◌}
use native.Mathlib.Nat.{mod-eq_of_lt}
use native.Mathlib.Omega.{arith}
use lib.Dec.{lit<}
use lib.Bits.{bit_xor}
use lib.ListN.{length, get_or, get_or-map}
use Rattle.basics.specs.Lists.{zeros, Bytes, entries}
use Rattle.basics.proofs.Lists.{byte, entries_rest}
use Rattle.basics.proofs.Numbers.{byte_at, byte_lt, byte_zero, byte_xor}
use Rattle.field.specs.Field.{times}
use Rattle.field.specs.EachByte.{times_each}
use Rattle.field.proofs.Laws.{times_lt, times_comm}
use Rattle.field.proofs.EachByte.{each_at}
use Rattle.division.specs.Division.{plus, scale}
use Rattle.division.specs.Register.{step, feed}
use Rattle.division.proofs.Register.{plus_comm, plus_zero_behind, scale_length}
use Rattle.reed_solomon.specs.Code.{generator, parity}
use Rattle.reed_solomon.proofs.Factors.{coefficients, coefficients_are_bytes, generator_is}
use Rattle.reed_solomon.proofs.Laws.{fed_length, parity_feed}

-- ---- a step, as the code writes it out

-- the same product at one place, and the same behind it
pub placed : (above : ℕ) {x y : ℕ} {xs ys : List ℕ} → x ≡ y → xs ≡ ys → bit_xor x above ∷ xs ≡ bit_xor y above ∷ ys
placed above = ap₂ (λ (x : ℕ) (xs : List ℕ). bit_xor x above ∷ xs)

-- to the products the registers are added, without what left them: nothing moves up into the last place
pub shifted : (registers : List ℕ) (row : ℕ) → length registers ≡ 16 → (next : List ℕ)
    → next ≡ plus (scale times_each (bit_xor (get_or registers 0 0) row) (tail coefficients)) (entries (byte registers) 1 15)
    → next ≡ step times_each (tail generator) registers row
unfolding step
shifted [] row long next e = absurd (omega arith)
shifted (x ∷ t) row long next e =
    let products = scale times_each (bit_xor x row) (tail coefficients) in
    let short : length t < length products = omega (arith, scale_length times_each (bit_xor x row) (tail coefficients)) in
    e ∙ ap (plus products) (entries_rest (x ∷ t) 1 15 long)
    ∙ plus_comm products t ∙ sym (plus_zero_behind t products short) ∙ plus_comm (t ++ 0 ∷ []) products
    ∙ ap (λ (g : List ℕ). plus (scale times_each (bit_xor x row) (tail g)) (t ++ 0 ∷ [])) (sym generator_is)

-- ---- the bytes of word k in some rows

abbrev pub word_in : ℕ → List ℕ → List ℕ
word_in k rows = map (byte_at k) rows

pub word_at : (k : ℕ) (rows : List ℕ) (j : ℕ) → get_or (word_in k rows) j 0 ≡ byte_at k (get_or rows j 0)
word_at k rows j = ap (get_or (word_in k rows) j) (sym (byte_zero k)) ∙ get_or-map (byte_at k) rows j 0

word_zeros : (k n : ℕ) → word_in k (zeros n) ≡ zeros n
word_zeros k zero = refl
word_zeros k (suc n) = ap₂ (λ (h : ℕ) (t : List ℕ). h ∷ t) (byte_zero k) (word_zeros k n)

-- rows in which the first word alone has a byte
word_bytes : (l : List ℕ) → Bytes l → word_in 0 l ≡ l
word_bytes [] b = refl
word_bytes (x ∷ l) b = ap₂ (λ (h : ℕ) (t : List ℕ). h ∷ t) (mod-eq_of_lt b.0) (word_bytes l b.1)

word_plus : (k : ℕ) (xs ys : List ℕ) → word_in k (plus xs ys) ≡ plus (word_in k xs) (word_in k ys)
unfolding plus
word_plus k [] ys = refl
word_plus k (x ∷ xs) [] = refl
word_plus k (x ∷ xs) (y ∷ ys) = ap₂ (λ (h : ℕ) (t : List ℕ). h ∷ t) (byte_xor k x y) (word_plus k xs ys)

word_behind : (k : ℕ) (xs : List ℕ) → word_in k (xs ++ 0 ∷ []) ≡ word_in k xs ++ 0 ∷ []
word_behind k [] = ap (λ (x : ℕ). x ∷ []) (byte_zero k)
word_behind k (x ∷ xs) = ap (λ (l : List ℕ). byte_at k x ∷ l) (word_behind k xs)

-- ---- the registers, fed

module _ (k : ℕ) (h : k < 8) where
  word_scale : (c : ℕ) (g : List ℕ) → Bytes g → word_in k (scale times_each c g) ≡ scale times (byte_at k c) g
  unfolding scale times_each
  word_scale c [] b = refl
  word_scale c (x ∷ g) b =
      ap₂ (λ (y : ℕ) (l : List ℕ). y ∷ l) (each_at (times x) (times_lt x) 8 k c h ∙ times_comm x (byte_at k c) b.0 (byte_lt k c)) (word_scale c g b.1)

  word_step : (g registers : List ℕ) (row : ℕ) → Bytes g → word_in k (step times_each g registers row) ≡ step times g (word_in k registers) (byte_at k row)
  unfolding step
  word_step g [] row b = refl
  word_step g (x ∷ t) row b =
      word_plus k (scale times_each (bit_xor x row) g) (t ++ 0 ∷ [])
      ∙ ap₂ plus (word_scale (bit_xor x row) g b ∙ ap (λ (c : ℕ). scale times c g) (byte_xor k x row)) (word_behind k t)

  word_feed : (g registers rows : List ℕ) → Bytes g → word_in k (feed times_each g registers rows) ≡ feed times g (word_in k registers) (word_in k rows)
  unfolding feed
  word_feed g registers [] b = refl
  word_feed g registers (row ∷ rows) b =
      word_feed g (step times_each g registers row) rows b ∙ ap (λ (r : List ℕ). feed times g r (word_in k rows)) (word_step g registers row b)

-- what registers of zeros hold after some rows
abbrev pub registers_of : List ℕ → List ℕ
registers_of rows = feed times_each (tail generator) (zeros 16) rows

pub registers_length : (rows : List ℕ) → length (registers_of rows) ≡ 16
registers_length rows = fed_length times_each rows

pub registers_word : (k : ℕ) → k < 8 → (rows : List ℕ) → word_in k (registers_of rows) ≡ parity (word_in k rows)
registers_word k h rows =
    word_feed k h (tail generator) (zeros 16) rows (subst (λ (g : List ℕ). Bytes (tail g)) (sym generator_is) coefficients_are_bytes)
    ∙ ap (λ (z : List ℕ). feed times (tail generator) z (word_in k rows)) (word_zeros k 16) ∙ sym (parity_feed (word_in k rows))

-- a single word
pub registers_bytes : (message : List ℕ) → Bytes message → word_in 0 (registers_of message) ≡ parity message
registers_bytes message b = registers_word 0 (lit< tt) message ∙ ap parity (word_bytes message b)
