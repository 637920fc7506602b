-- A sum of powers of x that the polynomial of the CRC-32 divides is 0 times any register: it is at 1, and keeps sums and doublings (`divided`).
use mathlib.Core.Path.{◌≡◌, refl, sym, ap, ap₂, ◌∙◌}
use mathlib.Core.List.{List, [], ◌∷◌}
use Prim.Native.Nat.{ℕ, zero, suc, ◌*◌, ◌^◌, ◌<◌}
use native.Mathlib.Nat.{le_refl, lt_trans, le_of_suc-le-suc, pow-suc}
use lib.Pow.{pow_pos, pow-lt}
use lib.Bits.{bit_xor, xor_lt}
use Rattle.basics.proofs.Xor.{xor_cross, xor_zero_eq}
use Rattle.division.specs.Doubling.{twice}
use Rattle.division.proofs.Basis.{agree}
use Rattle.division.proofs.Doubling.{twice_xor}
use Rattle.crc.specs.Crc.{crc32_polynomial}
use Rattle.crc.specs.Register.{doubled, raised}
use Rattle.crc.proofs.Bytes.{twice_small}
use Rattle.crc.proofs.Append.{raised_lt, raised_xor}

abbrev double : ℕ → ℕ
double y = twice 32 crc32_polynomial y

-- the sum of a register times x^(8 e), over the numbers e of a list
abbrev total : List ℕ → ℕ → ℕ
total [] y = 0
total (e ∷ es) y = bit_xor (raised (8 * e) y) (total es y)

total_lt : (es : List ℕ) (y : ℕ) → y < 2 ^ 32 → total es y < 2 ^ 32
total_lt [] y h = pow_pos 32
total_lt (e ∷ es) y h = xor_lt 32 (raised (8 * e) y) (total es y) (raised_lt (8 * e) y h) (total_lt es y h)

total_xor : (es : List ℕ) (a b : ℕ) → a < 2 ^ 32 → b < 2 ^ 32 → total es (bit_xor a b) ≡ bit_xor (total es a) (total es b)
total_xor [] a b ha hb = refl
total_xor (e ∷ es) a b ha hb =
    ap₂ bit_xor (raised_xor (8 * e) a b ha hb) (total_xor es a b ha hb) ∙ xor_cross (raised (8 * e) a) (raised (8 * e) b) (total es a) (total es b)

raised_double : (j y : ℕ) → raised j (double y) ≡ double (raised j y)
unfolding doubled
raised_double zero y = refl
raised_double (suc j) y = raised_double j (double y)

total_double : (es : List ℕ) (y : ℕ) → y < 2 ^ 32 → total es (double y) ≡ double (total es y)
unfolding twice
total_double [] y h = refl
total_double (e ∷ es) y h =
    ap₂ bit_xor (raised_double (8 * e) y) (total_double es y h)
    ∙ sym (twice_xor 32 crc32_polynomial (raised (8 * e) y) (total es y) (raised_lt (8 * e) y h) (total_lt es y h))

at_powers : (es : List ℕ) → total es 1 ≡ 0 → (j : ℕ) → j < 32 → total es (2 ^ j) ≡ 0
unfolding twice
at_powers es e zero h = e
at_powers es e (suc j) h =
    ap (total es) (pow-suc 2 j ∙ sym (twice_small 31 crc32_polynomial refl (2 ^ j) (pow-lt (le_of_suc-le-suc h))))
    ∙ total_double es (2 ^ j) (pow-lt (lt_trans (le_refl (suc j)) h)) ∙ ap double (at_powers es e j (lt_trans (le_refl (suc j)) h))

-- what keeps sums and is 0 at the powers of two is 0
pub divided : (d : ℕ) (es : List ℕ) → total (d ∷ es) 1 ≡ 0 → (y : ℕ) → y < 2 ^ 32 → raised (8 * d) y ≡ total es y
divided d es e y h =
    xor_zero_eq (raised (8 * d) y) (total es y)
    (agree 32 (total (d ∷ es)) (λ y. 0) (total_xor (d ∷ es)) (λ a b ha hb. refl) (at_powers (d ∷ es) e) y h)

-- the powers that the code goes by
pub powers : total (123 ∷ 111 ∷ 92 ∷ 84 ∷ 64 ∷ 46 ∷ 23 ∷ 0 ∷ []) 1 ≡ 0
unfolding doubled twice
powers = refl
