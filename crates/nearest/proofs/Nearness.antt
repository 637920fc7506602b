-- What it is to be near, and that at most one codeword is (`one_word`, `one_header`): two that differ from a word in at most 8 places each differ from
-- each other in at most 16, and that the code does not allow (`one_near`).
use mathlib.Core.Path.{◌≡◌, refl, sym, ap, ap₂, ◌∙◌, subst}
use mathlib.Core.Bool.{Bool, true, false, cond}
use mathlib.Core.List.{List, [], ◌∷◌, ◌++◌}
use Prim.Native.Nat.{ℕ, zero, suc, ◌+◌, ◌-◌, ◌≤◌}
use native.Mathlib.Nat.{zero-add, suc_inj, suc-ne-zero}
use borrow.Author.Tests.{eqb-true, eqb-false, eq-eqb}
use lib.Dec.{eqb, lit≤}
use lib.Bits.{bit_xor, xor_self}
use lib.ListN.{length, take, drop, length-append, length-drop, take-append-drop}
use lib.Seq.{take_at, drop_at}
use Rattle.basics.specs.Lists.{zeros, Bytes}
use Rattle.basics.proofs.Lists.{zeros_bytes, bytes_append, bytes_drop}
use Rattle.basics.proofs.Xor.{xor_zero_eq}
use Rattle.division.specs.Division.{plus}
use Rattle.reed_solomon.specs.Code.{is_codeword, lengthened}
use Rattle.reed_solomon.proofs.Distance.{one_near}
use Rattle.reed_solomon.proofs.Laws.{Codeword, codeword_length, true_codeword}
use Rattle.reed_solomon.proofs.Places.{weight, filled}
use Rattle.nearest.specs.Near.{differences}

-- c is a codeword of bytes that differs from the word w in at most 8 places
abbrev pub NearWord : List ℕ → List ℕ → Type 0
NearWord w c = Bytes c × (is_codeword c ≡ true) × (differences c w ≤ 8)

-- the same of a coded header h
abbrev pub NearHeader : List ℕ → List ℕ → Type 0
NearHeader h c = Bytes c × (length c ≡ 32) × (is_codeword (lengthened c) ≡ true) × (differences c h ≤ 8)

-- ---- the places that differ are those where the sum is not 0

filled_test : (x y : ℕ) → filled (bit_xor x y) ≡ cond (eqb x y) 0 1
filled_test x y = go (eqb x y) refl
  where
    not_zero : (z : ℕ) → (z ≡ 0 → ⊥) → filled z ≡ 1
    not_zero zero f = absurd (f refl)
    not_zero (suc z) f = refl

    go : (b : Bool) → eqb x y ≡ b → filled (bit_xor x y) ≡ cond (eqb x y) 0 1
    go true e = ap (λ (z : ℕ). filled (bit_xor z y)) (eqb-true x y e) ∙ ap filled (xor_self y) ∙ ap (λ (b : Bool). cond b 0 1) (sym e)
    go false e = not_zero (bit_xor x y) (λ z. eqb-false x y e (xor_zero_eq x y z)) ∙ ap (λ (b : Bool). cond b 0 1) (sym e)

pub weight_differences : (c w : List ℕ) → length c ≡ length w → weight (plus c w) ≡ differences c w
unfolding weight plus differences
weight_differences [] [] l = refl
weight_differences [] (y ∷ w) l = absurd (suc-ne-zero (length w) (sym l))
weight_differences (x ∷ c) [] l = absurd (suc-ne-zero (length c) l)
weight_differences (x ∷ c) (y ∷ w) l = ap₂ (λ (a b : ℕ). a + b) (filled_test x y) (weight_differences c w (suc_inj l))

pub differences_self : (w : List ℕ) → differences w w ≡ 0
unfolding differences
differences_self [] = refl
differences_self (x ∷ w) = ap₂ (λ (b : Bool) (n : ℕ). cond b 0 1 + n) (eq-eqb x x refl) (differences_self w)

pub self_near : (w : List ℕ) → differences w w ≤ 8
self_near w = subst (λ (n : ℕ). n ≤ 8) (sym (differences_self w)) (lit≤ tt)

-- ---- words

module _ (w c : List ℕ) (long : length w ≡ 255) (near : NearWord w c) where
  pub near_code : Codeword c
  near_code = true_codeword c near.1

  pub near_light : weight (plus c w) ≤ 8
  near_light = subst (λ (n : ℕ). n ≤ 8) (sym (weight_differences c w (codeword_length c near_code ∙ sym long))) near.2

pub one_word : (w c d : List ℕ) → length w ≡ 255 → NearWord w c → NearWord w d → c ≡ d
one_word w c d long nc nd =
    one_near w c d long nc.0 nd.0 (near_code w c long nc) (near_code w d long nd) (near_light w c long nc) (near_light w d long nd)

-- ---- headers: behind the zeros that are not sent they are words

pub lengthened_header : (c : List ℕ) → length c ≡ 32 → lengthened c ≡ zeros 223 ++ c
unfolding lengthened
lengthened_header c l = ap (λ (n : ℕ). zeros (255 - n) ++ c) l

pub lengthened_long : (c : List ℕ) → length c ≡ 32 → length (lengthened c) ≡ 255
lengthened_long c l = ap length (lengthened_header c l) ∙ length-append (zeros 223) c ∙ ap (λ (n : ℕ). length (zeros 223) + n) l

pub lengthened_bytes : (c : List ℕ) → length c ≡ 32 → Bytes c → Bytes (lengthened c)
lengthened_bytes c l h = subst Bytes (sym (lengthened_header c l)) (bytes_append (zeros 223) c (zeros_bytes 223) h)

differences_behind : (n : ℕ) (c h : List ℕ) → differences (zeros n ++ c) (zeros n ++ h) ≡ differences c h
unfolding differences
differences_behind zero c h = refl
differences_behind (suc n) c h = zero-add (differences (zeros n ++ c) (zeros n ++ h)) ∙ differences_behind n c h

lengthened_differences : (c h : List ℕ) → length c ≡ 32 → length h ≡ 32 → differences (lengthened c) (lengthened h) ≡ differences c h
lengthened_differences c h lc lh = ap₂ differences (lengthened_header c lc) (lengthened_header h lh) ∙ differences_behind 223 c h

pub lengthened_near : (h c : List ℕ) → length h ≡ 32 → NearHeader h c → NearWord (lengthened h) (lengthened c)
lengthened_near h c l n =
    (lengthened_bytes c n.1 n.0, n.2, subst (λ (k : ℕ). k ≤ 8) (sym (lengthened_differences c h n.1 l)) n.3)

-- a codeword near the lengthened header is that of a header, where what was not sent is 0
pub sent_near : (h x : List ℕ) → length h ≡ 32 → NearWord (lengthened h) x → take 223 x ≡ zeros 223 → NearHeader h (drop 223 x)
sent_near h x l n z =
    let c = drop 223 x in
    let lx : length x ≡ 255 = codeword_length x (true_codeword x n.1) in
    let lc : length c ≡ 32 = length-drop 223 x ∙ ap (λ (k : ℕ). k - 223) lx in
    let e : x ≡ lengthened c = sym (take-append-drop 223 x) ∙ ap (λ (t : List ℕ). t ++ c) z ∙ sym (lengthened_header c lc) in (
      bytes_drop 223 x n.0,
      lc,
      ap is_codeword (sym e) ∙ n.1,
      subst (λ (k : ℕ). k ≤ 8) (ap (λ (y : List ℕ). differences y (lengthened h)) e ∙ lengthened_differences c h lc l) n.2,
    )

pub lengthened_front : (c : List ℕ) → length c ≡ 32 → take 223 (lengthened c) ≡ zeros 223
lengthened_front c l = ap (take 223) (lengthened_header c l) ∙ take_at (zeros 223) c 223 refl

lengthened_back : (c : List ℕ) → length c ≡ 32 → drop 223 (lengthened c) ≡ c
lengthened_back c l = ap (drop 223) (lengthened_header c l) ∙ drop_at (zeros 223) c 223 refl

pub one_header : (h c d : List ℕ) → length h ≡ 32 → NearHeader h c → NearHeader h d → c ≡ d
one_header h c d l nc nd =
    let e = one_word (lengthened h) (lengthened c) (lengthened d) (lengthened_long h l) (lengthened_near h c l nc) (lengthened_near h d l nd) in
    sym (lengthened_back c nc.1) ∙ ap (drop 223) e ∙ lengthened_back d nd.1
