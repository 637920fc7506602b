-- A polynomial whose last coefficient that is not 0 stands at x^k is 0 at no more than k places of a word (`few`, `places_few`).
use mathlib.Core.Path.{◌≡◌, refl, sym, ap, ap₂, ◌∙◌, subst}
use mathlib.Core.Logic.{inl, inr, ⊎_elim}
use mathlib.Core.List.{List, [], ◌∷◌}
use Prim.Native.Nat.{ℕ, zero, suc, ◌*◌, ◌≤◌, ◌<◌}
use native.Mathlib.Nat.{suc-ne-zero, not-suc-le-zero, le_of_suc-le-suc, le_refl, add-suc, suc-add, le_dest, eq-or-lt_of_le}
use native.Mathlib.Omega.{arith}
use lib.Bits.{bit_xor, xor_lt, xor_comm, xor_self, xor_zero_r}
use lib.ListN.{length}
use Rattle.basics.specs.Lists.{Bytes}
use Rattle.basics.proofs.Tests.{lt_or_ge}
use Rattle.basics.proofs.Xor.{xor_cross, xor_zero_eq, xor_cancel, xor_assoc}
use Rattle.field.specs.Field.{times}
use Rattle.field.proofs.Laws.{times_assoc, times_comm, power_lt, times_xor_left, times_lt, times_xor_right, times_zero}
use Rattle.reed_solomon.specs.Roots.{locator}
use Rattle.reed_solomon.proofs.Distance.{zero_of}
use Rattle.reed_solomon.proofs.Places.{AllZero, locator_other}
use Rattle.nearest.specs.Search.{Falling, pick, places, value_at}
use Rattle.nearest.proofs.PlaceLists.{Member}
use Rattle.nearest.proofs.Polynomial.{value_at_lt}
use Rattle.nearest.proofs.Rising.{Top}

-- two places have different numbers
locator_less : (n m : ℕ) → n < m → m < 255 → locator n ≡ locator m → ⊥
locator_less n m h hm e =
    let d = le_dest {n = suc n} {m = m} h in
    locator_other n d.0 (omega (arith, d.1)) (e ∙ ap locator (sym (add-suc n d.0 ∙ sym (suc-add n d.0) ∙ d.1)))

-- so places with one number are one place
pub locator_same : (n m : ℕ) → n < 255 → m < 255 → locator n ≡ locator m → n ≡ m
locator_same n m hn hm e =
    ⊎_elim (λ l. absurd (locator_less n m l hm e))
    (λ g. ⊎_elim (λ q. sym q) (λ l. absurd (locator_less m n l hn (sym e))) (eq-or-lt_of_le g)) (lt_or_ge n m)

-- the quotient by x - a
unfoldable quo : ℕ → List ℕ → List ℕ
quo a [] = []
quo a (l ∷ L) = value_at a L ∷ quo a L

quo_bytes : (a : ℕ) (L : List ℕ) → Bytes L → Bytes (quo a L)
unfolding quo
quo_bytes a [] h = tt
quo_bytes a (l ∷ L) h = (value_at_lt a L h.1, quo_bytes a L h.1)

-- l + x M(x) + l + a M(a) = (x + a) (M(a) + x Q(x))  where  M(x) + M(a) = (x + a) Q(x)
divide_step : (x a l u v q : ℕ) → x < 256 → a < 256 → u < 256 → v < 256 → q < 256 → bit_xor u v ≡ times (bit_xor x a) q
    → bit_xor (bit_xor l (times x u)) (bit_xor l (times a v)) ≡ times (bit_xor x a) (bit_xor v (times x q))
divide_step x a l u v q hx ha hu hv hq e =
    let d = bit_xor x a in
    let hd : d < 256 = xor_lt 8 x a hx ha in
    let left : bit_xor (bit_xor l (times x u)) (bit_xor l (times a v)) ≡ bit_xor (times x u) (times a v) =
    xor_cross l (times x u) l (times a v) ∙ ap (λ (y : ℕ). bit_xor y (bit_xor (times x u) (times a v))) (xor_self l) in
    let far : times d (times x q) ≡ bit_xor (times x u) (times x v) =
    sym (times_assoc d x q hd hx hq) ∙ ap (λ (y : ℕ). times y q) (times_comm d x hd hx) ∙ times_assoc x d q hx hd hq
    ∙ ap (times x) (sym e) ∙ times_xor_right x u v hu hv in
    let right : times d (bit_xor v (times x q)) ≡ bit_xor (times x u) (times a v) =
    times_xor_right d v (times x q) hv (times_lt x q hq)
    ∙ ap₂ bit_xor (times_xor_left x a v) far
    ∙ xor_cross (times x v) (times a v) (times x u) (times x v)
    ∙ ap₂ bit_xor (xor_comm (times x v) (times x u)) (xor_comm (times a v) (times x v))
    ∙ xor_assoc (times x u) (times x v) (bit_xor (times x v) (times a v))
    ∙ ap (bit_xor (times x u)) (xor_cancel (times x v) (times a v)) in
    left ∙ sym right

quo_identity : (x a : ℕ) (L : List ℕ) → x < 256 → a < 256 → Bytes L
    → bit_xor (value_at x L) (value_at a L) ≡ times (bit_xor x a) (value_at x (quo a L))
unfolding value_at quo
quo_identity x a [] hx ha h = sym (times_zero (bit_xor x a))
quo_identity x a (l ∷ L) hx ha h =
    divide_step x a l (value_at x L) (value_at a L) (value_at x (quo a L)) hx ha (value_at_lt x L h.1) (value_at_lt a L h.1)
    (value_at_lt x (quo a L) (quo_bytes a L h.1))
    (quo_identity x a L hx ha h.1)

value_at_none : (x : ℕ) (L : List ℕ) → AllZero L → value_at x L ≡ 0
unfolding value_at
value_at_none x [] h = refl
value_at_none x (l ∷ L) h = ap₂ bit_xor h.0 (ap (times x) (value_at_none x L h.1) ∙ times_zero x)

quo_none : (a : ℕ) (L : List ℕ) → AllZero L → AllZero (quo a L)
unfolding quo
quo_none a [] h = tt
quo_none a (l ∷ L) h = (value_at_none a L h.1, quo_none a L h.1)

value_at_low : (x : ℕ) (L : List ℕ) (l : ℕ) → AllZero L → value_at x (l ∷ L) ≡ l
unfolding value_at
value_at_low x L l h = ap (bit_xor l) (ap (times x) (value_at_none x L h) ∙ times_zero x) ∙ xor_zero_r l

quo_top : (k a : ℕ) (L : List ℕ) → Top (suc k) L → Top k (quo a L)
unfolding quo
quo_top k a [] t = t
quo_top zero a (l ∷ []) t = absurd t
quo_top zero a (l ∷ h ∷ L) t = (λ e. t.0 (sym (value_at_low a L h t.1) ∙ e), (value_at_none a L t.1, quo_none a L t.1))
quo_top (suc k) a (l ∷ L) t = quo_top k a L t

abbrev pub Roots : List ℕ → List ℕ → Type 0
Roots L [] = Unit {0}
Roots L (p ∷ P) = (value_at (locator p) L ≡ 0) × Roots L P

-- a root that is left is a root of the quotient
root_left : (q p : ℕ) (L : List ℕ) → q < p → p < 255 → Bytes L → value_at (locator p) L ≡ 0 → value_at (locator q) L ≡ 0
    → value_at (locator q) (quo (locator p) L) ≡ 0
root_left q p L h hp hL ep eq =
    let x = locator q in
    let a = locator p in
    let Q = quo a L in
    let hd : bit_xor x a < 256 = xor_lt 8 x a (power_lt (11 * q)) (power_lt (11 * p)) in
    let e : times (value_at x Q) (bit_xor x a) ≡ 0 =
    times_comm (value_at x Q) (bit_xor x a) (value_at_lt x Q (quo_bytes a L hL)) hd
    ∙ sym (quo_identity x a L (power_lt (11 * q)) (power_lt (11 * p)) hL) ∙ ap₂ bit_xor eq ep in
    zero_of (value_at x Q) (bit_xor x a) (value_at_lt x Q (quo_bytes a L hL)) hd e (λ z. locator_less q p h hp (xor_zero_eq x a z))

roots_left : (m p : ℕ) (L P : List ℕ) → m ≤ p → p < 255 → Bytes L → value_at (locator p) L ≡ 0 → Falling m P → Roots L P
    → Roots (quo (locator p) L) P
roots_left m p L [] le hp hL e f r = tt
roots_left m p L (q ∷ P) le hp hL e f r = (
  root_left q p L (omega (arith, f.0)) hp hL e r.0,
  roots_left q p L P (omega (arith, f.0)) hp hL e f.1 r.1,
)

-- by induction on k: each root takes a factor out
few : (k n : ℕ) (L P : List ℕ) → n ≤ 255 → Bytes L → Top k L → Falling n P → Roots L P → length P ≤ k
few k n L [] le hL t f r = omega arith
few k n [] (p ∷ P) le hL t f r = absurd t
few zero n (l ∷ L) (p ∷ P) le hL t f r = absurd (t.0 (sym (value_at_low (locator p) L l t.1) ∙ r.0))
few (suc k) n (l ∷ L) (p ∷ P) le hL t f r =
    let a = locator p in
    let hp : p < 255 = omega (arith, f.0) in
    let Q = quo a (l ∷ L) in
    let s : length P ≤ k =
    few k p Q P (omega (arith, f.0)) (quo_bytes a (l ∷ L) hL) (quo_top k a (l ∷ L) t) f.1
    (roots_left p p (l ∷ L) P (le_refl p) hp hL r.0 f.1 r.1) in
    omega (arith, s)

-- ---- the places at which L is 0, from n - 1 down

falling_more : (n m : ℕ) (P : List ℕ) → n ≤ m → Falling n P → Falling m P
falling_more n m [] le f = tt
falling_more n m (p ∷ P) le f = (omega (arith, f.0), f.1)

pick_falling : (v n : ℕ) (P : List ℕ) → Falling n P → Falling (suc n) (pick v n P)
pick_falling zero n P f = (le_refl (suc n), f)
pick_falling (suc v) n P f = falling_more n (suc n) P (omega arith) f

pub places_falling : (n : ℕ) (L : List ℕ) → Falling n (places n L)
unfolding places
places_falling zero L = tt
places_falling (suc n) L = pick_falling (value_at (locator n) L) n (places n L) (places_falling n L)

pick_roots : (v n : ℕ) (L P : List ℕ) → value_at (locator n) L ≡ v → Roots L P → Roots L (pick v n P)
pick_roots zero n L P e r = (e, r)
pick_roots (suc v) n L P e r = r

places_roots : (n : ℕ) (L : List ℕ) → Roots L (places n L)
unfolding places
places_roots zero L = tt
places_roots (suc n) L = pick_roots (value_at (locator n) L) n L (places n L) refl (places_roots n L)

pick_new : (v n : ℕ) (P : List ℕ) → v ≡ 0 → Member n (pick v n P)
pick_new zero n P e = inl refl
pick_new (suc v) n P e = absurd (suc-ne-zero v e)

pick_old : (v n m : ℕ) (P : List ℕ) → Member m P → Member m (pick v n P)
pick_old zero n m P h = inr h
pick_old (suc v) n m P h = h

-- every place at which L is 0 is there
pub places_all : (n m : ℕ) (L : List ℕ) → m < n → value_at (locator m) L ≡ 0 → Member m (places n L)
unfolding places
places_all zero m L h e = absurd (not-suc-le-zero h)
places_all (suc n) m L h e =
    let v = value_at (locator n) L in
    let P = places n L in
    ⊎_elim
    (λ (q : m ≡ n). subst (λ (i : ℕ). Member i (pick v n P)) (sym q) (pick_new v n P (ap (λ (i : ℕ). value_at (locator i) L) (sym q) ∙ e)))
    (λ l. pick_old v n m P (places_all n m L l e))
    (eq-or-lt_of_le (le_of_suc-le-suc h))

pub places_few : (k : ℕ) (L : List ℕ) → Bytes L → Top k L → length (places 255 L) ≤ k
places_few k L hL t = few k 255 L (places 255 L) (le_refl 255) hL t (places_falling 255 L) (places_roots 255 L)
