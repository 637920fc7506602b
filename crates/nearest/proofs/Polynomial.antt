-- Sums are killed by a polynomial where their `dot` with it is 0. One that kills as many lists of neighbouring sums of an error as the error may have
-- wrong places is 0 at each of these places (`vanish`).
use mathlib.Core.Path.{◌≡◌, refl, sym, ap, ap₂, ◌∙◌, subst}
use mathlib.Core.List.{List, [], ◌∷◌, tail}
use Prim.Native.Nat.{ℕ, zero, suc, ◌+◌, ◌*◌, ◌≤◌, ◌<◌}
use native.Mathlib.Nat.{not-suc-le-zero, le_of_suc-le-suc, add-suc, suc-add, add-zero, add_comm, mul-suc, add-mul, add-le-add}
use native.Mathlib.Omega.{arith}
use lib.Dec.{lit<, lit≤}
use lib.Bits.{bit_xor, xor_lt}
use lib.ListN.{length}
use Rattle.basics.specs.Lists.{Bytes}
use Rattle.basics.proofs.Xor.{xor_cross}
use Rattle.field.specs.Field.{power, times}
use Rattle.field.proofs.Laws.{times_assoc, times_comm, power_lt, power_add, times_xor_left, times_lt, zero_times, times_xor_right, times_zero}
use Rattle.reed_solomon.specs.Roots.{locator, terms}
use Rattle.reed_solomon.proofs.Distance.{all_zero_lem}
use Rattle.reed_solomon.proofs.Places.{weight, AllZero, filled_times}
use Rattle.reed_solomon.proofs.Roots.{terms_lt}
use Rattle.nearest.specs.Search.{dot, sums, value_at}

-- each place of a word times the value of L at the place's number
abbrev pub through : List ℕ → List ℕ → List ℕ
through L [] = []
through L (c ∷ p) = times c (value_at (locator (length p)) L) ∷ through L p

pub value_at_lt : (x : ℕ) (L : List ℕ) → Bytes L → value_at x L < 256
unfolding value_at
value_at_lt x [] h = lit< tt
value_at_lt x (l ∷ L) h = xor_lt 8 l (times x (value_at x L)) h.0 (times_lt x (value_at x L) (value_at_lt x L h.1))

through_length : (L p : List ℕ) → length (through L p) ≡ length p
through_length L [] = refl
through_length L (c ∷ p) = ap suc (through_length L p)

through_bytes : (L p : List ℕ) → Bytes L → Bytes (through L p)
through_bytes L [] h = tt
through_bytes L (c ∷ p) h = (times_lt c (value_at (locator (length p)) L) (value_at_lt (locator (length p)) L h), through_bytes L p h)

through_weight : (L p : List ℕ) → weight (through L p) ≤ weight p
unfolding weight
through_weight L [] = lit≤ tt
through_weight L (c ∷ p) = add-le-add (filled_times c (value_at (locator (length p)) L)) (through_weight L p)

-- the next power of a place's number
next_power : (j n : ℕ) → times (locator n) (power (11 * j * n)) ≡ power (11 * suc j * n)
next_power j n =
    power_add (11 * n) (11 * j * n) ∙ ap power (add_comm (11 * n) (11 * j * n) ∙ sym (ap (λ (x : ℕ). x * n) (mul-suc 11 j) ∙ add-mul (11 * j) 11 n))

-- one place: c (l + x E) P = l (c P) + (c E) (x P)
place_step : (c l x E P Q : ℕ) → c < 256 → l < 256 → x < 256 → E < 256 → P < 256 → times x P ≡ Q
    → times (times c (bit_xor l (times x E))) P ≡ bit_xor (times l (times c P)) (times (times c E) Q)
place_step c l x E P Q hc hl hx hE hP e =
    ap (λ (y : ℕ). times y P) (times_xor_right c l (times x E) hl (times_lt x E hE))
    ∙ times_xor_left (times c l) (times c (times x E)) P
    ∙ ap₂ bit_xor
    (ap (λ (y : ℕ). times y P) (times_comm c l hc hl) ∙ times_assoc l c P hl hc hP)
    (ap (λ (y : ℕ). times y P) (ap (times c) (times_comm x E hx hE) ∙ sym (times_assoc c E x hc hE hx))
    ∙ times_assoc (times c E) x P (times_lt c E hE) hx hP ∙ ap (times (times c E)) e)

dot_place : (L : List ℕ) (m j c : ℕ) (p : List ℕ) → Bytes L → c < 256 → length L ≤ m
    → dot L (sums m j (c ∷ p)) ≡ bit_xor (times (times c (value_at (locator (length p)) L)) (power (11 * j * length p))) (dot L (sums m j p))
unfolding dot sums value_at terms
dot_place [] m j c p h hc le =
    sym (ap (λ (y : ℕ). bit_xor (times y (power (11 * j * length p))) 0) (times_zero c)
    ∙ ap (λ (y : ℕ). bit_xor y 0) (zero_times (power (11 * j * length p))))
dot_place (l ∷ L) zero j c p h hc le = absurd (not-suc-le-zero le)
dot_place (l ∷ L) (suc m) j c p h hc le =
    let n = length p in
    let x = locator n in
    let P = power (11 * j * n) in
    let Q = power (11 * suc j * n) in
    let E = value_at x L in
    let T = terms (11 * j) p in
    let D = dot L (sums m (suc j) p) in
    ap₂ bit_xor (times_xor_right l (times c P) T (times_lt c P (power_lt (11 * j * n))) (terms_lt (11 * j) p))
    (dot_place L m (suc j) c p h.1 hc (le_of_suc-le-suc le))
    ∙ xor_cross (times l (times c P)) (times l T) (times (times c E) Q) D
    ∙ ap (λ (y : ℕ). bit_xor y (bit_xor (times l T) D))
    (sym (place_step c l x E P Q hc h.0 (power_lt (11 * n)) (value_at_lt x L h.1) (power_lt (11 * j * n)) (next_power j n)))

dot_none : (L : List ℕ) (m j : ℕ) → dot L (sums m j []) ≡ 0
unfolding dot sums terms
dot_none [] m j = refl
dot_none (l ∷ L) zero j = refl
dot_none (l ∷ L) (suc m) j = ap₂ bit_xor (times_zero l) (dot_none L m (suc j))

-- the sums of what L makes of a word come from neighbouring sums of the word
through_terms : (L : List ℕ) (m j : ℕ) (e : List ℕ) → Bytes L → Bytes e → length L ≤ m → terms (11 * j) (through L e) ≡ dot L (sums m j e)
unfolding terms
through_terms L m j [] hL h le = sym (dot_none L m j)
through_terms L m j (c ∷ p) hL h le =
    let v = times c (value_at (locator (length p)) L) in
    ap₂ (λ (n : ℕ) (y : ℕ). bit_xor (times v (power (11 * j * n))) y) (through_length L p) (through_terms L m j p hL h.1 le)
    ∙ sym (dot_place L m j c p hL h.0 le)

-- L kills the first n of: the sums S, the sums from the second on, ..
abbrev pub Kills : ℕ → List ℕ → List ℕ → Type 0
Kills zero L S = Unit {0}
Kills (suc n) L S = (dot L S ≡ 0) × Kills n L (tail S)

killed : (n m b : ℕ) (L e : List ℕ) → Bytes L → Bytes e → length L + n ≤ suc m → Kills n L (sums m b e)
    → (j : ℕ) → j < n → terms (11 * (b + j)) (through L e) ≡ 0
unfolding sums
killed zero m b L e hL he le k j h = absurd (not-suc-le-zero h)
killed (suc n) m b L e hL he le k zero h = ap (λ (i : ℕ). terms (11 * i) (through L e)) (add-zero b) ∙ through_terms L m b e hL he (omega arith) ∙ k.0
killed (suc n) zero b L e hL he le k (suc j) h =
    ap (λ (i : ℕ). terms (11 * i) (through L e)) (add-suc b j ∙ sym (suc-add b j))
    ∙ killed n zero (suc b) L e hL he (omega arith) k.1 j (le_of_suc-le-suc h)
killed (suc n) (suc m) b L e hL he le k (suc j) h =
    ap (λ (i : ℕ). terms (11 * i) (through L e)) (add-suc b j ∙ sym (suc-add b j))
    ∙ killed n m (suc b) L e hL he (omega arith) k.1 j (le_of_suc-le-suc h)

-- an error of at most t wrong places, and L that kills t lists of neighbouring sums
pub vanish : (t m b : ℕ) (L e : List ℕ) → Bytes L → Bytes e → length e ≤ 255 → weight e ≤ t → length L + t ≤ suc m
    → Kills t L (sums m b e) → AllZero (through L e)
vanish t m b L e hL he long light le k =
    all_zero_lem t b (through L e) (subst (λ (n : ℕ). n ≤ 255) (sym (through_length L e)) long) (through_bytes L e hL)
    (omega (arith, through_weight L e)) (killed t m b L e hL he le k)
