-- The sums of a word: of its error, of what division leaves of it, of a word that is changed at one place; and 16 zeros are those of a codeword.
use mathlib.Core.Path.{◌≡◌, refl, sym, ap, ap₂, ◌∙◌, subst}
use mathlib.Core.List.{List, [], ◌∷◌, tail}
use Prim.Native.Nat.{ℕ, zero, suc, ◌+◌, ◌-◌, ◌*◌, ◌≤◌, ◌<◌}
use native.Mathlib.Nat.{zero-add, add-zero, suc-add, add-suc, suc_inj, suc-ne-zero, not-suc-le-zero, le_of_suc-le-suc, le_of_eq, mul_assoc, mul_comm}
use native.Mathlib.Omega.{arith}
use lib.Dec.{lit<, lit≤}
use lib.Bits.{bit_xor, xor_comm}
use lib.ListN.{length, get_or, set, length-set}
use lib.Seq.{ext_get_or}
use Rattle.basics.specs.Lists.{zeros, Bytes}
use Rattle.basics.proofs.Lists.{zeros_length, zeros_at}
use Rattle.basics.proofs.Xor.{xor_cross, xor_assoc}
use Rattle.field.specs.Field.{power, times}
use Rattle.field.specs.Raised.{raised}
use Rattle.field.proofs.Laws.{power_lt, times_xor_left, zero_times}
use Rattle.field.proofs.Raised.{raised_power}
use Rattle.division.proofs.Register.{plus_length}
use Rattle.division.specs.Division.{plus, remainder}
use Rattle.reed_solomon.specs.Code.{remainder_of}
use Rattle.reed_solomon.specs.Roots.{locator, terms, value}
use Rattle.reed_solomon.proofs.Distance.{zeros_of, all_zero_lem}
use Rattle.reed_solomon.proofs.Factors.{coefficients, coefficients_are_bytes, generator_is}
use Rattle.reed_solomon.proofs.Laws.{Codeword}
use Rattle.reed_solomon.proofs.Places.{weight, filled_le}
use Rattle.reed_solomon.proofs.Roots.{remainder_bytes, terms_lt, codeword_terms, value_remainder, value_terms, root}
use Rattle.reed_solomon.proofs.Remainders.{whole_remainder_length}
use Rattle.nearest.specs.Search.{sums, sums_of}

pub sums_at : (m b : ℕ) (w : List ℕ) (i : ℕ) → i < m → get_or (sums m b w) i 0 ≡ terms (11 * (b + i)) w
unfolding sums
sums_at zero b w i h = absurd (not-suc-le-zero h)
sums_at (suc m) b w zero h = ap (λ (n : ℕ). terms (11 * n) w) (sym (add-zero b))
sums_at (suc m) b w (suc i) h = sums_at m (suc b) w i (le_of_suc-le-suc h) ∙ ap (λ (n : ℕ). terms (11 * n) w) (suc-add b i ∙ sym (add-suc b i))

sums_length : (m b : ℕ) (w : List ℕ) → length (sums m b w) ≡ m
unfolding sums
sums_length zero b w = refl
sums_length (suc m) b w = ap suc (sums_length m (suc b) w)

pub sums_bytes : (m b : ℕ) (w : List ℕ) → Bytes (sums m b w)
unfolding sums
sums_bytes zero b w = tt
sums_bytes (suc m) b w = (terms_lt (11 * b) w, sums_bytes m (suc b) w)

-- ---- what division leaves of a word has the word's sums

value_of : (u : ℕ) (p : List ℕ) → Bytes p → value (power u) 0 p ≡ terms u p
value_of u p h = value_terms u 0 p (lit< tt) h ∙ ap (λ (y : ℕ). bit_xor y (terms u p)) (zero_times (power (u * length p)))

-- the remainder, by the generator's coefficients written out
written_out : (x : List ℕ) → remainder_of x ≡ remainder times (tail coefficients) 239 x
written_out x = ap (λ (g : List ℕ). remainder times (tail g) 239 x) generator_is

remainder_value : (x : List ℕ) → length x ≡ 255 → Bytes x → (i : ℕ) → i < 16
    → value (power (11 * (120 + i))) 0 (remainder_of x) ≡ terms (11 * (120 + i)) x
remainder_value x long hx i h =
    let u = 11 * (120 + i) in
    ap (value (power u) 0) (written_out x)
    ∙ value_remainder (power u) (tail coefficients) (power_lt u) coefficients_are_bytes (root i h) 239 x hx (le_of_eq (sym long))
    ∙ value_of u x hx

pub sums_are : (w s r : List ℕ) → length w ≡ 255 → Bytes w → r ≡ remainder_of w
    → length s ≡ 16 → ((i : ℕ) → i < 16 → get_or s i 0 ≡ value (power (11 * (120 + i))) 0 r) → s ≡ sums_of w
sums_are w s r long hw e ls f =
    ext_get_or 0 s (sums_of w) (ls ∙ sym (sums_length 16 120 w))
    (λ i h.
    let h' : i < 16 = subst (λ (n : ℕ). i < n) ls h in
    f i h' ∙ ap (value (power (11 * (120 + i))) 0) e ∙ remainder_value w long hw i h' ∙ sym (sums_at 16 120 w i h'))

-- ---- a codeword's sums are 0, and a word whose sums are 0 is a codeword

weight_most : (l : List ℕ) → weight l ≤ length l
unfolding weight
weight_most [] = lit≤ tt
weight_most (x ∷ l) = omega (arith, filled_le x, weight_most l)

pub sums_codeword : (x : List ℕ) → length x ≡ 255 → Bytes x → sums_of x ≡ zeros 16 → Codeword x
unfolding Codeword
sums_codeword x long hx z =
    let r = remainder_of x in
    let lr = whole_remainder_length x long in
    let hr : Bytes r = subst Bytes (sym (written_out x)) (remainder_bytes (tail coefficients) 239 x coefficients_are_bytes hx) in
    let none : (j : ℕ) → j < 16 → terms (11 * (120 + j)) r ≡ 0 =
    λ j h.
    sym (value_of (11 * (120 + j)) r hr) ∙ remainder_value x long hx j h
    ∙ sym (sums_at 16 120 x j h) ∙ ap (λ (l : List ℕ). get_or l j 0) z ∙ zeros_at 16 j in
    (long, zeros_of r (all_zero_lem 16 120 r (omega (arith, lr)) hr (omega (arith, weight_most r, lr)) none) ∙ ap zeros lr)

pub codeword_sums : (x : List ℕ) → Bytes x → Codeword x → sums_of x ≡ zeros 16
codeword_sums x hx k =
    ext_get_or 0 (sums_of x) (zeros 16) (sums_length 16 120 x ∙ sym (zeros_length 16))
    (λ i h.
    let h' : i < 16 = subst (λ (m : ℕ). i < m) (sums_length 16 120 x) h in
    sums_at 16 120 x i h' ∙ codeword_terms x hx k i h' ∙ sym (zeros_at 16 i))

-- ---- the sums of a word are those of its error

terms_plus : (u : ℕ) (a b : List ℕ) → length a ≡ length b → terms u (plus a b) ≡ bit_xor (terms u a) (terms u b)
unfolding terms plus
terms_plus u [] [] e = refl
terms_plus u [] (y ∷ b) e = absurd (suc-ne-zero (length b) (sym e))
terms_plus u (x ∷ a) [] e = absurd (suc-ne-zero (length a) e)
terms_plus u (x ∷ a) (y ∷ b) e =
    let l : length a ≡ length b = suc_inj e in
    let X = power (u * length a) in
    let Y = power (u * length b) in
    ap (λ (n : ℕ). bit_xor (times (bit_xor x y) (power (u * n))) (terms u (plus a b))) (plus_length a b (length b) l refl)
    ∙ ap₂ bit_xor (times_xor_left x y Y ∙ ap (λ (n : ℕ). bit_xor (times x (power (u * n))) (times y Y)) (sym l)) (terms_plus u a b l)
    ∙ xor_cross (times x X) (times y Y) (terms u a) (terms u b)

pub sums_error : (m b : ℕ) (c w : List ℕ) → length c ≡ length w → ((i : ℕ) → i < m → terms (11 * (b + i)) c ≡ 0)
    → sums m b (plus c w) ≡ sums m b w
unfolding sums
sums_error zero b c w l z = refl
sums_error (suc m) b c w l z =
    ap₂ (λ (h : ℕ) (t : List ℕ). h ∷ t)
    (terms_plus (11 * b) c w l
    ∙ ap (λ (y : ℕ). bit_xor y (terms (11 * b) w)) (ap (λ (i : ℕ). terms (11 * i) c) (sym (add-zero b)) ∙ z 0 (omega arith)))
    (sums_error m (suc b) c w l (λ i h. ap (λ (j : ℕ). terms (11 * j) c) (suc-add b i ∙ sym (add-suc b i)) ∙ z (suc i) (omega (arith, h))))

-- ---- a place is changed

terms_set : (u k n v : ℕ) (l : List ℕ) → k + suc n ≡ length l
    → terms u (set l k (bit_xor (get_or l k 0) v)) ≡ bit_xor (terms u l) (times v (power (u * n)))
unfolding terms
terms_set u k n v [] h = absurd (suc-ne-zero (k + n) (sym (add-suc k n) ∙ h))
terms_set u zero n v (c ∷ p) h =
    let e : n ≡ length p = suc_inj (sym (zero-add (suc n)) ∙ h) in
    let P = power (u * length p) in
    ap (λ (y : ℕ). bit_xor y (terms u p)) (times_xor_left c v P)
    ∙ xor_assoc (times c P) (times v P) (terms u p) ∙ ap (bit_xor (times c P)) (xor_comm (times v P) (terms u p))
    ∙ sym (xor_assoc (times c P) (terms u p) (times v P))
    ∙ ap (λ (m : ℕ). bit_xor (bit_xor (times c P) (terms u p)) (times v (power (u * m)))) (sym e)
terms_set u (suc k) n v (c ∷ p) h =
    let y = bit_xor (get_or p k 0) v in
    ap₂ (λ (m t : ℕ). bit_xor (times c (power (u * m))) t) (length-set p k y) (terms_set u k n v p (suc_inj (sym (suc-add k (suc n)) ∙ h)))
    ∙ sym (xor_assoc (times c (power (u * length p))) (terms u p) (times v (power (u * n))))

-- the sums of a word after one place is repaired
pub sums_set : (l t r : List ℕ) (n v x : ℕ) → length l ≡ 255 → n < 255 → x ≡ locator n → t ≡ sums_of l
    → length r ≡ 16 → ((i : ℕ) → i < 16 → get_or r i 0 ≡ bit_xor (get_or t i 0) (times v (raised x (120 + i))))
    → r ≡ sums_of (set l (254 - n) (bit_xor (get_or l (254 - n) 0) v))
sums_set l t r n v x long hn ex et lr er =
    let l' = set l (254 - n) (bit_xor (get_or l (254 - n) 0) v) in
    ext_get_or 0 r (sums_of l') (lr ∙ sym (sums_length 16 120 l'))
    (λ i h.
    let h' : i < 16 = subst (λ (m : ℕ). i < m) lr h in
    let u = 11 * (120 + i) in
    er i h'
    ∙ ap₂ bit_xor (ap (λ (s : List ℕ). get_or s i 0) et ∙ sums_at 16 120 l i h')
    (ap (times v) (ap (λ (y : ℕ). raised y (120 + i)) ex ∙ raised_power (11 * n) (120 + i) ∙ ap power (swap n (120 + i))))
    ∙ sym (terms_set u (254 - n) n v l (omega (arith, long, hn)))
    ∙ sym (sums_at 16 120 l' i h'))
  where
    swap : (n m : ℕ) → 11 * n * m ≡ 11 * m * n
    swap n m = mul_assoc 11 n m ∙ ap (λ (k : ℕ). 11 * k) (mul_comm n m) ∙ sym (mul_assoc 11 m n)
