-- Powers of a byte: exponents add, and the square of a byte takes half the exponent. Powers of 2 come round after 255.
use mathlib.Core.Path.{◌≡◌, sym, ap, ap₂, ◌∙◌}
use Prim.Native.Nat.{ℕ, zero, suc, ◌+◌, ◌*◌, ◌/◌, ◌%◌, ◌<◌}
use native.Mathlib.Nat.{zero-add, suc-add, zero-mul, suc-mul, mul-zero, mul-suc, add_comm}
use native.Mathlib.Omega.{arith}
use lib.Dec.{lit<}
use Rattle.field.specs.Field.{power, times}
use Rattle.field.specs.Raised.{raised}
use Rattle.field.proofs.Laws.{times_lt, times_assoc, times_comm, one_times, times_one, power_add, power_round}

pub raised_lt : (a n : ℕ) → raised a n < 256
unfolding raised
raised_lt a zero = lit< tt
raised_lt a (suc n) = times_lt a (raised a n) (raised_lt a n)

raised_add : (a m n : ℕ) → a < 256 → times (raised a m) (raised a n) ≡ raised a (m + n)
unfolding raised
raised_add a zero n h = one_times (raised a n) (raised_lt a n) ∙ ap (raised a) (sym (zero-add n))
raised_add a (suc m) n h =
    times_assoc a (raised a m) (raised a n) h (raised_lt a m) (raised_lt a n) ∙ ap (times a) (raised_add a m n h) ∙ ap (raised a) (sym (suc-add m n))

cross : (a b c d : ℕ) → a < 256 → b < 256 → c < 256 → d < 256 → times (times a b) (times c d) ≡ times (times a c) (times b d)
cross a b c d ha hb hc hd =
    times_assoc a b (times c d) ha hb (times_lt c d hd)
    ∙ ap (times a) (sym (times_assoc b c d hb hc hd) ∙ ap (λ (x : ℕ). times x d) (times_comm b c hb hc) ∙ times_assoc c b d hc hb hd)
    ∙ sym (times_assoc a c (times b d) ha hc (times_lt b d hd))

raised_square : (a n : ℕ) → a < 256 → raised (times a a) n ≡ times (raised a n) (raised a n)
unfolding raised
raised_square a zero h = sym (one_times 1 (lit< tt))
raised_square a (suc n) h =
    let r = raised a n in
    ap (times (times a a)) (raised_square a n h) ∙ cross a a r r h h (raised_lt a n) (raised_lt a n)

square_raised : (a n : ℕ) → a < 256 → raised (times a a) n ≡ raised a (n + n)
square_raised a n h = raised_square a n h ∙ raised_add a n n h

-- ---- a turn of squaring: the exponent k that is left is odd, is even, is 0

pub odd_turn : (square result k : ℕ) → square < 256 → result < 256 → k % 2 ≡ 1
    → times (times square result) (raised (times square square) (k / 2)) ≡ times result (raised square k)
unfolding raised
odd_turn square result k hs hr e =
    let n = k / 2 in
    let q : k ≡ suc (n + n) = omega (arith, e) in
    ap₂ times (times_comm square result hs hr) (square_raised square n hs)
    ∙ times_assoc result square (raised square (n + n)) hr hs (raised_lt square (n + n))
    ∙ ap (λ (i : ℕ). times result (raised square i)) (sym q)

pub even_turn : (square result k : ℕ) → square < 256 → (k % 2 ≡ 1 → ⊥)
    → times result (raised (times square square) (k / 2)) ≡ times result (raised square k)
even_turn square result k hs f =
    let n = k / 2 in
    let q : n + n ≡ k = omega (arith, f) in
    ap (times result) (square_raised square n hs ∙ ap (raised square) q)

pub no_turn : (square result k : ℕ) → result < 256 → k ≡ 0 → times result (raised square k) ≡ result
unfolding raised
no_turn square result k h e = ap (λ (i : ℕ). times result (raised square i)) e ∙ times_one result h

-- ---- powers of powers of 2

pub raised_power : (k n : ℕ) → raised (power k) n ≡ power (k * n)
unfolding raised power
raised_power k zero = ap power (sym (mul-zero k))
raised_power k (suc n) = ap (times (power k)) (raised_power k n) ∙ power_add k (k * n) ∙ ap power (add_comm k (k * n) ∙ sym (mul-suc k n))

pub power_rounds : (k : ℕ) → power (k * 255) ≡ 1
unfolding power
power_rounds zero = ap power (zero-mul 255)
power_rounds (suc k) = ap power (suc-mul k 255) ∙ power_round (k * 255) ∙ power_rounds k
