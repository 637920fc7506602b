-- Of bytes the remainder and the parity are bytes, and a codeword is 0 at each root of the generator.
use mathlib.Core.Path.{◌≡◌, refl, sym, ap, ◌∙◌, subst}
use mathlib.Core.Bool.{Bool}
use mathlib.Core.List.{List, [], ◌∷◌, ◌++◌, tail}
use Prim.Native.Nat.{ℕ, zero, suc, ◌+◌, ◌*◌, ◌≤◌, ◌<◌}
use native.Mathlib.Nat.{le_of_suc-le-suc, not-suc-le-zero, mul-zero, mul-suc, add_comm, le_of_eq}
use native.Mathlib.Omega.{arith}
use lib.Dec.{T, eqb, eqb→eq, lit<}
use lib.Bits.{bit_xor, xor_lt, xor_self, xor_zero_r}
use lib.ListN.{length}
use Rattle.division.specs.Doubling.{twice}
use Rattle.field.specs.Field.{power, times, sum_over, double}
use Rattle.basics.proofs.Xor.{xor_cross, xor_assoc}
use Rattle.basics.specs.Lists.{all_below}
use Rattle.basics.proofs.Tests.{below}
use Rattle.field.proofs.Laws.{times_xor_left, times_xor_right, times_lt, times_assoc, times_one, zero_times, times_zero, power_lt, power_add}
use Rattle.basics.specs.Lists.{zeros, Bytes}
use Rattle.basics.proofs.Lists.{zeros_bytes, bytes_append}
use Rattle.division.specs.Division.{plus, scale, remainder, check}
use Rattle.division.proofs.Register.{scale_length}
use Rattle.division.proofs.Identity.{plus_length_le}
use Rattle.reed_solomon.specs.Code.{generator, parity}
use Rattle.reed_solomon.specs.Roots.{terms, value}
use Rattle.reed_solomon.proofs.Factors.{coefficients, coefficients_are_bytes, root_at, root_is, generator_is}
use Rattle.reed_solomon.proofs.Laws.{Codeword}

pub plus_bytes : (xs ys : List ℕ) → Bytes xs → Bytes ys → Bytes (plus xs ys)
unfolding plus
plus_bytes [] ys h k = k
plus_bytes (x ∷ xs) [] h k = h
plus_bytes (x ∷ xs) (y ∷ ys) h k = (xor_lt 8 x y h.0 k.0, plus_bytes xs ys h.1 k.1)

pub scale_bytes : (c : ℕ) (xs : List ℕ) → Bytes xs → Bytes (scale times c xs)
unfolding scale
scale_bytes c [] h = tt
scale_bytes c (x ∷ xs) h = (times_lt c x h.0, scale_bytes c xs h.1)

pub remainder_bytes : (g : List ℕ) (n : ℕ) (xs : List ℕ) → Bytes g → Bytes xs → Bytes (remainder times g n xs)
unfolding remainder
remainder_bytes g zero xs hg h = h
remainder_bytes g (suc n) [] hg h = tt
remainder_bytes g (suc n) (c ∷ xs) hg h =
    let s = scale times c g in
    remainder_bytes g n (plus s xs) hg (plus_bytes s xs (scale_bytes c g hg) h.1)

generator_bytes : Bytes (tail generator)
generator_bytes = subst (λ (g : List ℕ). Bytes (tail g)) (sym generator_is) coefficients_are_bytes

pub parity_bytes : (message : List ℕ) → Bytes message → Bytes (parity message)
unfolding parity check
parity_bytes message h =
    let n = length (tail generator) in
    remainder_bytes (tail generator) (length message) (message ++ zeros n) generator_bytes (bytes_append message (zeros n) h (zeros_bytes n))

-- ---- the value of a polynomial

-- a shorter list of value 0 can be taken off in front
value_plus : (x a b : ℕ) (p q : List ℕ) → value x a p ≡ 0 → length p ≤ length q → value x (bit_xor a b) (plus p q) ≡ value x b q
unfolding value plus
value_plus x a b [] q e h = ap (λ (y : ℕ). value x (bit_xor y b) q) e
value_plus x a b (u ∷ p) [] e h = absurd (not-suc-le-zero h)
value_plus x a b (u ∷ p) (v ∷ q) e h =
    ap (λ (y : ℕ). value x y (plus p q)) (ap (λ (y : ℕ). bit_xor y (bit_xor u v)) (times_xor_left a b x) ∙ xor_cross (times a x) (times b x) u v)
    ∙ value_plus x (bit_xor (times a x) u) (bit_xor (times b x) v) p q e (le_of_suc-le-suc h)

value_scale : (x c a : ℕ) (p : List ℕ) → x < 256 → c < 256 → a < 256 → Bytes p → value x (times c a) (scale times c p) ≡ times c (value x a p)
unfolding value scale
value_scale x c a [] hx hc ha h = refl
value_scale x c a (u ∷ p) hx hc ha h =
    ap (λ (y : ℕ). value x y (scale times c p))
    (ap (λ (y : ℕ). bit_xor y (times c u)) (times_assoc c a x hc ha hx) ∙ sym (times_xor_right c (times a x) u (times_lt a x hx) h.0))
    ∙ value_scale x c (bit_xor (times a x) u) p hx hc (xor_lt 8 (times a x) u (times_lt a x hx) h.0) h.1

-- long division keeps the value at a root of the divisor
pub value_remainder : (x : ℕ) (g : List ℕ) → x < 256 → Bytes g → value x 1 g ≡ 0 → (n : ℕ) (xs : List ℕ) → Bytes xs → n + length g ≤ length xs
    → value x 0 (remainder times g n xs) ≡ value x 0 xs
unfolding remainder plus scale value
value_remainder x g hx hg root zero xs h l = refl
value_remainder x g hx hg root (suc n) [] h l = absurd (omega arith)
value_remainder x g hx hg root (suc n) (c ∷ xs) h l =
    let s = scale times c g in
    let le : length s ≤ length xs = omega (arith, scale_length times c g) in
    let gone : value x c s ≡ 0 =
    ap (λ (y : ℕ). value x y s) (sym (times_one c h.0)) ∙ value_scale x c 1 g hx h.0 (lit< tt) hg ∙ ap (times c) root ∙ times_zero c in
    value_remainder x g hx hg root n (plus s xs) (plus_bytes s xs (scale_bytes c g hg) h.1) (omega (arith, plus_length_le s xs le))
    ∙ ap (λ (y : ℕ). value x y (plus s xs)) (sym (xor_self c))
    ∙ value_plus x c c s xs gone le
    ∙ ap (λ (y : ℕ). value x (bit_xor y c) xs) (sym (zero_times x))

value_zeros : (x n : ℕ) → value x 0 (zeros n) ≡ 0
unfolding value
value_zeros x zero = refl
value_zeros x (suc n) = ap (λ (y : ℕ). value x (bit_xor y 0) (zeros n)) (zero_times x) ∙ value_zeros x n

-- ---- the roots of the generator, computed

root_test : ℕ → Bool
root_test i = eqb (value (root_at i) 1 (tail coefficients)) 0

root_tests : T (all_below 16 root_test)
unfolding root_test root_at value power times sum_over double twice
root_tests = tt

pub root : (i : ℕ) → i < 16 → value (power (11 * (120 + i))) 1 (tail coefficients) ≡ 0
unfolding root_test
root i h = ap (λ (x : ℕ). value x 1 (tail coefficients)) (root_is i) ∙ eqb→eq (value (root_at i) 1 (tail coefficients)) 0 (below 16 root_test root_tests i h)

pub codeword_root : (w : List ℕ) → Bytes w → Codeword w → (i : ℕ) → i < 16 → value (power (11 * (120 + i))) 0 w ≡ 0
unfolding Codeword
codeword_root w hw c i h =
    let x = power (11 * (120 + i)) in
    sym (value_remainder x (tail coefficients) (power_lt (11 * (120 + i))) coefficients_are_bytes (root i h) 239 w hw (le_of_eq (sym c.0)))
    ∙ ap (λ (g : List ℕ). value x 0 (remainder times (tail g) 239 w)) (sym generator_is)
    ∙ ap (value x 0) c.1 ∙ value_zeros x 16

-- ---- the value as a sum of terms

pub terms_lt : (u : ℕ) (p : List ℕ) → terms u p < 256
unfolding terms
terms_lt u [] = lit< tt
terms_lt u (c ∷ p) = xor_lt 8 (times c (power (u * length p))) (terms u p) (times_lt c (power (u * length p)) (power_lt (u * length p))) (terms_lt u p)

pub value_terms : (u a : ℕ) (p : List ℕ) → a < 256 → Bytes p → value (power u) a p ≡ bit_xor (times a (power (u * length p))) (terms u p)
unfolding value terms power
value_terms u a [] ha h = sym (xor_zero_r (times a (power (u * 0))) ∙ ap (λ (n : ℕ). times a (power n)) (mul-zero u) ∙ times_one a ha)
value_terms u a (c ∷ p) ha h =
    let x = power u in
    let P = power (u * length p) in
    value_terms u (bit_xor (times a x) c) p (xor_lt 8 (times a x) c (times_lt a x (power_lt u)) h.0) h.1
    ∙ ap (λ (y : ℕ). bit_xor y (terms u p)) (times_xor_left (times a x) c P)
    ∙ xor_assoc (times (times a x) P) (times c P) (terms u p)
    ∙ ap (λ (y : ℕ). bit_xor y (bit_xor (times c P) (terms u p)))
    (times_assoc a x P ha (power_lt u) (power_lt (u * length p))
    ∙ ap (times a) (power_add u (u * length p) ∙ ap power (add_comm u (u * length p) ∙ sym (mul-suc u (length p)))))

pub codeword_terms : (w : List ℕ) → Bytes w → Codeword w → (i : ℕ) → i < 16 → terms (11 * (120 + i)) w ≡ 0
codeword_terms w hw c i h =
    let u = 11 * (120 + i) in
    ap (λ (y : ℕ). bit_xor y (terms u w)) (sym (zero_times (power (u * length w))))
    ∙ sym (value_terms u 0 w (lit< tt) hw) ∙ codeword_root w hw c i h
