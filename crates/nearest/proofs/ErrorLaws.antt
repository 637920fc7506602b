-- The error at a known place: with all other places taken out, the first sum that is left gives it (`error_is`).
use mathlib.Core.Path.{◌≡◌, refl, sym, ap, ap₂, ◌∙◌, subst}
use mathlib.Core.Logic.{◌⊎◌, inl, inr, ⊎_elim}
use mathlib.Core.List.{List, [], ◌∷◌, ◌++◌}
use Prim.Native.Nat.{ℕ, zero, suc, ◌+◌, ◌*◌, ◌<◌}
use native.Mathlib.Nat.{suc_inj, suc-ne-zero, add-suc, suc-add, le_dest, zero-add, lt_irrefl}
use native.Mathlib.Omega.{arith}
use lib.Dec.{lit<}
use lib.Bits.{bit_xor, xor_lt, xor_self, xor_zero_r}
use lib.ListN.{length, get_or}
use Rattle.basics.specs.Lists.{Bytes}
use Rattle.basics.proofs.Lists.{byte_at_lem}
use Rattle.basics.proofs.Xor.{xor_zero_eq}
use Rattle.field.specs.Field.{power, times}
use Rattle.field.proofs.Laws.{times_assoc, power_lt, times_xor_left, times_lt, times_one, zero_times, times_zero}
use Rattle.reed_solomon.specs.Roots.{locator, terms}
use Rattle.reed_solomon.proofs.Distance.{zero_of, terms_none}
use Rattle.reed_solomon.proofs.Places.{AllZero, power_pos, diff_lt, taken_out, taken_length, taken_bytes, taken_terms}
use Rattle.nearest.specs.Search.{factor, locators, sums, value_at, without, without_all}
use Rattle.nearest.proofs.Count.{locator_same}
use Rattle.nearest.proofs.PlaceLists.{Apart, Member}
use Rattle.nearest.proofs.Polynomial.{through}

-- a word with several places taken out
unfoldable all_out : List ℕ → List ℕ → List ℕ
all_out [] e = e
all_out (q ∷ P) e = all_out P (taken_out (locator q) e)

without_sums : (a m j : ℕ) (e : List ℕ) → a < 256 → Bytes e → without a (sums (suc m) j e) ≡ sums m j (taken_out a e)
unfolding without sums
without_sums a zero j e ha he = refl
without_sums a (suc m) j e ha he = ap₂ (λ (h : ℕ) (t : List ℕ). h ∷ t) (sym (taken_terms a j e ha he)) (without_sums a m (suc j) e ha he)

without_all_sums : (P : List ℕ) (m j : ℕ) (e : List ℕ) → Bytes e → without_all (locators P) (sums (length P + m) j e) ≡ sums m j (all_out P e)
unfolding without_all all_out
without_all_sums [] m j e he = ap (λ (n : ℕ). sums n j e) (zero-add m)
without_all_sums (q ∷ P) m j e he =
    ap (λ (n : ℕ). without_all (locators P) (without (locator q) (sums n j e))) (suc-add (length P) m)
    ∙ ap (without_all (locators P)) (without_sums (locator q) (length P + m) j e (power_lt (11 * q)) he)
    ∙ without_all_sums P m j (taken_out (locator q) e) (taken_bytes (locator q) e (power_lt (11 * q)))

-- place k of a word, behind which n places stand
taken_at : (a k n : ℕ) (e : List ℕ) → k + suc n ≡ length e → get_or (taken_out a e) k 0 ≡ times (get_or e k 0) (bit_xor (locator n) a)
taken_at a zero n [] h = sym (zero_times (bit_xor (locator n) a))
taken_at a (suc k) n [] h = sym (zero_times (bit_xor (locator n) a))
taken_at a zero n (c ∷ p) h = ap (λ (i : ℕ). times c (bit_xor (locator i) a)) (sym (suc_inj (sym (zero-add (suc n)) ∙ h)))
taken_at a (suc k) n (c ∷ p) h = taken_at a k n p (suc_inj (sym (suc-add k (suc n)) ∙ h))

pub through_at : (L : List ℕ) (k n : ℕ) (e : List ℕ) → k + suc n ≡ length e → get_or (through L e) k 0 ≡ times (get_or e k 0) (value_at (locator n) L)
through_at L zero n [] h = sym (zero_times (value_at (locator n) L))
through_at L (suc k) n [] h = sym (zero_times (value_at (locator n) L))
through_at L zero n (c ∷ p) h = ap (λ (i : ℕ). times c (value_at (locator i) L)) (sym (suc_inj (sym (zero-add (suc n)) ∙ h)))
through_at L (suc k) n (c ∷ p) h = through_at L k n p (suc_inj (sym (suc-add k (suc n)) ∙ h))

pub zero_at : (d : List ℕ) (k : ℕ) → AllZero d → get_or d k 0 ≡ 0
zero_at [] zero z = refl
zero_at [] (suc k) z = refl
zero_at (x ∷ d) zero z = z.0
zero_at (x ∷ d) (suc k) z = zero_at d k z.1

-- e is 0 but at the places P
abbrev pub Only : List ℕ → List ℕ → Type 0
Only P e = (k n : ℕ) → k + suc n ≡ length e → (get_or e k 0 ≡ 0) ⊎ Member n P

only_taken : (q : ℕ) (P e : List ℕ) → Only (q ∷ P) e → Only P (taken_out (locator q) e)
only_taken q P e o k n h =
    let h' : k + suc n ≡ length e = h ∙ taken_length (locator q) e in
    let a = taken_at (locator q) k n e h' in
    let c = get_or e k 0 in
    ⊎_elim (λ z. inl (a ∙ ap (λ (y : ℕ). times y (bit_xor (locator n) (locator q))) z ∙ zero_times (bit_xor (locator n) (locator q))))
    (λ m.
    ⊎_elim
    (λ (s : n ≡ q). inl (a ∙ ap (λ (i : ℕ). times c (bit_xor (locator i) (locator q))) s ∙ ap (times c) (xor_self (locator q)) ∙ times_zero c))
    (λ r. inr r) m)
    (o k n h')

only_all_out : (P Q e : List ℕ) → Only (P ++ Q) e → Only Q (all_out P e)
unfolding all_out
only_all_out [] Q e o = o
only_all_out (q ∷ P) Q e o = only_all_out P Q (taken_out (locator q) e) (only_taken q (P ++ Q) e o)

all_out_length : (P e : List ℕ) → length (all_out P e) ≡ length e
unfolding all_out
all_out_length [] e = refl
all_out_length (q ∷ P) e = all_out_length P (taken_out (locator q) e) ∙ taken_length (locator q) e

pub factor_lt : (x : ℕ) (Y : List ℕ) → factor x Y < 256
unfolding factor
factor_lt x [] = lit< tt
factor_lt x (y ∷ Y) = times_lt (bit_xor x y) (factor x Y) (factor_lt x Y)

all_out_at : (P : List ℕ) (k n : ℕ) (e : List ℕ) → Bytes e → k + suc n ≡ length e
    → get_or (all_out P e) k 0 ≡ times (get_or e k 0) (factor (locator n) (locators P))
unfolding all_out factor
all_out_at [] k n e he h = sym (times_one (get_or e k 0) (byte_at_lem e he k))
all_out_at (q ∷ P) k n e he h =
    let d = bit_xor (locator n) (locator q) in
    all_out_at P k n (taken_out (locator q) e) (taken_bytes (locator q) e (power_lt (11 * q))) (h ∙ sym (taken_length (locator q) e))
    ∙ ap (λ (y : ℕ). times y (factor (locator n) (locators P))) (taken_at (locator q) k n e h)
    ∙ times_assoc (get_or e k 0) d (factor (locator n) (locators P)) (byte_at_lem e he k) (diff_lt (locator q) n (power_lt (11 * q)))
    (factor_lt (locator n) (locators P))

-- a word that is 0 but at one place: its sums
all_of : (e : List ℕ) → ((k : ℕ) → k < length e → get_or e k 0 ≡ 0) → AllZero e
all_of [] f = tt
all_of (c ∷ p) f = (f 0 (omega arith), all_of p (λ k h. f (suc k) (omega (arith, h))))

rest_zero : (n c : ℕ) (p : List ℕ) → n ≡ length p → Only (n ∷ []) (c ∷ p) → (k : ℕ) → k < length p → get_or p k 0 ≡ 0
rest_zero n c p s o k h =
    let d = le_dest {n = suc k} {m = length p} h in
    ⊎_elim (λ z. z) (λ m. ⊎_elim (λ (e : d.0 ≡ n). absurd (omega (arith, d.1, e, s))) (λ f. absurd f) m)
    (o (suc k) d.0 (add-suc (suc k) d.0 ∙ ap suc d.1))

first_zero : (k n c : ℕ) (p : List ℕ) → k + suc n ≡ length p → Only (n ∷ []) (c ∷ p) → c ≡ 0
first_zero k n c p h o =
    ⊎_elim (λ z. z) (λ m. ⊎_elim (λ (e : length p ≡ n). absurd (omega (arith, h, e))) (λ f. absurd f) m) (o 0 (length p) (zero-add (suc (length p))))

alone_terms : (u k n : ℕ) (e : List ℕ) → k + suc n ≡ length e → Only (n ∷ []) e → terms u e ≡ times (get_or e k 0) (power (u * n))
unfolding terms
alone_terms u k n [] h o = absurd (suc-ne-zero (k + n) (sym (add-suc k n) ∙ h))
alone_terms u zero n (c ∷ p) h o =
    let s : n ≡ length p = suc_inj (sym (zero-add (suc n)) ∙ h) in
    ap (bit_xor (times c (power (u * length p)))) (terms_none u p (all_of p (rest_zero n c p s o))) ∙ xor_zero_r (times c (power (u * length p)))
    ∙ ap (λ (i : ℕ). times c (power (u * i))) (sym s)
alone_terms u (suc k) n (c ∷ p) h o =
    let h' : k + suc n ≡ length p = suc_inj (sym (suc-add k (suc n)) ∙ h) in
    ap₂ bit_xor (ap (λ (y : ℕ). times y (power (u * length p))) (first_zero k n c p h' o) ∙ zero_times (power (u * length p)))
    (alone_terms u k n p h' (λ i m e. o (suc i) m (suc-add i (suc m) ∙ ap suc e)))

-- the first sum that is left, where e is 0 but at the places P and at place n
first_left : (P : List ℕ) (m b k n : ℕ) (e : List ℕ) → Bytes e → k + suc n ≡ length e → Only (P ++ n ∷ []) e
    → get_or (without_all (locators P) (sums (length P + suc m) b e)) 0 0 ≡ times (get_or e k 0) (times (factor (locator n) (locators P)) (power (11 * b * n)))
unfolding sums
first_left P m b k n e he h o =
    ap (λ (S : List ℕ). get_or S 0 0) (without_all_sums P (suc m) b e he)
    ∙ alone_terms (11 * b) k n (all_out P e) (h ∙ sym (all_out_length P e)) (only_all_out P (n ∷ []) e o)
    ∙ ap (λ (y : ℕ). times y (power (11 * b * n))) (all_out_at P k n e he h)
    ∙ times_assoc (get_or e k 0) (factor (locator n) (locators P)) (power (11 * b * n)) (byte_at_lem e he k) (factor_lt (locator n) (locators P))
    (power_lt (11 * b * n))

product_not_zero : (a b : ℕ) → a < 256 → b < 256 → (a ≡ 0 → ⊥) → (b ≡ 0 → ⊥) → times a b ≡ 0 → ⊥
product_not_zero a b ha hb na nb e = na (zero_of a b ha hb e nb)

factor_not_zero : (n : ℕ) (P : List ℕ) → n < 255 → Apart n P → factor (locator n) (locators P) ≡ 0 → ⊥
unfolding factor
factor_not_zero n [] hn a e = suc-ne-zero 0 e
factor_not_zero n (q ∷ P) hn a e =
    product_not_zero (bit_xor (locator n) (locator q)) (factor (locator n) (locators P)) (diff_lt (locator q) n (power_lt (11 * q)))
    (factor_lt (locator n) (locators P))
    (λ z. a.1 (locator_same n q hn a.0 (xor_zero_eq (locator n) (locator q) z))) (factor_not_zero n P hn a.2) e

power_not_zero : (u : ℕ) → power u ≡ 0 → ⊥
power_not_zero u e = lt_irrefl 0 (subst (λ (x : ℕ). 0 < x) e (power_pos u))

pub divisor_not_zero : (b n : ℕ) (P : List ℕ) → n < 255 → Apart n P → times (factor (locator n) (locators P)) (power (11 * b * n)) ≡ 0 → ⊥
divisor_not_zero b n P hn a e =
    product_not_zero (factor (locator n) (locators P)) (power (11 * b * n)) (factor_lt (locator n) (locators P)) (power_lt (11 * b * n))
    (factor_not_zero n P hn a) (power_not_zero (11 * b * n)) e

cancel : (r c d : ℕ) → r < 256 → c < 256 → d < 256 → (d ≡ 0 → ⊥) → times r d ≡ times c d → r ≡ c
cancel r c d hr hc hd nd e =
    xor_zero_eq r c (zero_of (bit_xor r c) d (xor_lt 8 r c hr hc) hd
    (times_xor_left r c d ∙ ap (λ (y : ℕ). bit_xor y (times c d)) e ∙ xor_self (times c d)) nd)

-- so whatever solves the equation for the error is the error
pub error_is : (P : List ℕ) (m b k n r : ℕ) (e : List ℕ) → Bytes e → length e ≡ 255 → k + suc n ≡ 255 → Only (P ++ n ∷ []) e
    → Apart n P → r < 256
    → times r (times (factor (locator n) (locators P)) (power (11 * b * n))) ≡ get_or (without_all (locators P) (sums (length P + suc m) b e)) 0 0
    → r ≡ get_or e k 0
error_is P m b k n r e he l h o a hr s =
    let d = times (factor (locator n) (locators P)) (power (11 * b * n)) in
    cancel r (get_or e k 0) d hr (byte_at_lem e he k) (times_lt (factor (locator n) (locators P)) (power (11 * b * n)) (power_lt (11 * b * n)))
    (divisor_not_zero b n P (omega (arith, h)) a) (s ∙ first_left P m b k n e he (h ∙ sym l) o)
