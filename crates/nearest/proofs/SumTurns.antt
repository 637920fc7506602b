-- Numbers that are each a multiple of the one before, as roots, as the places' numbers and as what an error adds to the sums; and the value of a list of
-- coefficients, from the highest power and from the lowest.
use mathlib.Core.Path.{◌≡◌, refl, sym, ap, ap₂, ◌∙◌}
use mathlib.Core.List.{List, [], ◌∷◌, ◌++◌, reverse, reverse-cons, append_assoc, append-nil}
use Prim.Native.Nat.{ℕ, zero, suc, ◌+◌, ◌*◌, ◌<◌}
use native.Mathlib.Omega.{arith}
use lib.Bits.{bit_xor, xor_lt}
use lib.Dec.{lit<}
use Rattle.std.proofs.lemmas.Nat.{xor_comm}
use Rattle.basics.specs.Lists.{Bytes}
use Rattle.field.specs.Field.{double, power, times}
use Rattle.field.specs.Raised.{raised}
use Rattle.field.proofs.Laws.{times_assoc, times_comm, times_lt, times_one, one_times, power_add}
use Rattle.field.proofs.Raised.{raised_lt}
use Rattle.division.specs.Doubling.{twice}
use Rattle.reed_solomon.specs.Roots.{locator, value}
use Rattle.reed_solomon.proofs.Factors.{root_at, root_is}
use Rattle.nearest.specs.Search.{value_at}

-- ---- from the highest power, and from the lowest

value_at_lt : (x : ℕ) (l : List ℕ) → Bytes l → value_at x l < 256
unfolding value_at
value_at_lt x [] b = lit< tt
value_at_lt x (c ∷ l) b = xor_lt 8 c (times x (value_at x l)) b.0 (times_lt x (value_at x l) (value_at_lt x l b.1))

value_back : (x : ℕ) (r l : List ℕ) → x < 256 → Bytes r → Bytes l → value x (value_at x l) r ≡ value_at x (reverse r ++ l)
unfolding value value_at
value_back x [] l hx hr hl = refl
value_back x (c ∷ r) l hx hr hl =
    let v = value_at x l in
    ap (λ (y : ℕ). value x y r) (xor_comm (times v x) c ∙ ap (bit_xor c) (times_comm v x (value_at_lt x l hl) hx))
    ∙ value_back x r (c ∷ l) hx hr.1 (hr.0, hl)
    ∙ sym (ap (λ (t : List ℕ). value_at x (t ++ l)) (reverse-cons c r) ∙ ap (value_at x) (append_assoc (reverse r) (c ∷ []) l))

pub value_reverse : (x : ℕ) (r : List ℕ) → x < 256 → Bytes r → value_at x (reverse r) ≡ value x 0 r
unfolding value_at
value_reverse x r hx hr = ap (value_at x) (sym (append-nil (reverse r))) ∙ sym (value_back x r [] hx hr tt)

-- ---- a multiple of the one before

-- v times the next power of x
pub power_turn : (v x y k : ℕ) → v < 256 → x < 256 → y ≡ times v (raised x k) → times x y ≡ times v (raised x (suc k))
unfolding raised
power_turn v x y k hv hx e =
    let R = raised x k in
    ap (times x) e ∙ sym (times_assoc x v R hx hv (raised_lt x k)) ∙ ap (λ (z : ℕ). times z R) (times_comm x v hx hv)
    ∙ times_assoc v x R hv hx (raised_lt x k)

-- what begins with v times a power of x
pub power_from : (v x i : ℕ) → v < 256 → x < 256 → times (times v (raised x 120)) (raised x i) ≡ times v (raised x (120 + i))
unfolding raised
power_from v x zero hv hx = times_one (times v (raised x 120)) (times_lt v (raised x 120) (raised_lt x 120))
power_from v x (suc i) hv hx =
    let first = times v (raised x 120) in
    let here = times first (raised x i) in
    let next : suc (120 + i) ≡ 120 + suc i = omega arith in
    sym (power_turn first x here i (times_lt v (raised x 120) (raised_lt x 120)) hx refl)
    ∙ power_turn v x here (120 + i) hv hx (power_from v x i hv hx) ∙ ap (λ (k : ℕ). times v (raised x k)) next

-- ---- 173 is 2 to the power 11

step_power : power 11 ≡ 173
unfolding power double twice
step_power = refl

pub place_raised : (n : ℕ) → raised 173 n ≡ locator n
unfolding raised power
place_raised zero = refl
place_raised (suc n) =
    let q : 11 + 11 * n ≡ 11 * suc n = omega arith in
    ap₂ times (sym step_power) (place_raised n) ∙ power_add 11 (11 * n) ∙ ap power q

pub place_number : (n : ℕ) → times 1 (raised 173 n) ≡ locator n
place_number n = one_times (raised 173 n) (raised_lt 173 n) ∙ place_raised n

root_start : 120 ≡ power (11 * 120)
unfolding root_at
root_start = sym (root_is 0)

pub root_number : (i : ℕ) → times 120 (raised 173 i) ≡ power (11 * (120 + i))
root_number i =
    let q : 11 * 120 + 11 * i ≡ 11 * (120 + i) = omega arith in
    ap₂ times root_start (place_raised i) ∙ power_add (11 * 120) (11 * i) ∙ ap power q
