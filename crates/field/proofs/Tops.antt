-- Eight bytes doubled at once: one mask takes the bits that leave at the top, another those that stay. One byte doubled, by cases.
use mathlib.Core.Path.{◌≡◌, sym, ap, ap₂, ◌∙◌}
use Prim.Native.Nat.{ℕ, zero, suc, ◌+◌, ◌-◌, ◌*◌, ◌/◌, ◌%◌, ◌^◌, ◌≤◌, ◌<◌}
use native.Mathlib.Nat.{zero-add}
use native.Mathlib.Omega.{arith}
use lib.Arith.{le-zero}
use lib.Dec.{lit<}
use lib.Bits.{bit_xor, bit_and, xor_block, and_block, and_mask, and_le_r, xor_self, xor_zero_r}
use Rattle.division.specs.Doubling.{twice}
use Rattle.field.specs.Field.{double}
use Rattle.field.specs.EachByte.{each_byte}

-- n bytes, each the byte b
abbrev pub repeated : ℕ → ℕ → ℕ
repeated zero b = 0
repeated (suc n) b = repeated n b * 2 ^ 8 + b

-- what leaves at the top of each byte, 0 or 1, and what stays
abbrev tops : ℕ → ℕ → ℕ
tops n x = bit_and (x / 128) (repeated n 1)

abbrev lows : ℕ → ℕ → ℕ
lows n x = bit_and x (repeated n 0x7F)

tops_step : (n x : ℕ) → tops (suc n) x ≡ tops n (x / 256) * 2 ^ 8 + x % 256 / 128
tops_step n x =
    let low : ℕ = x / 256 % 128 * 2 + x % 256 / 128 in
    let e : x / 128 ≡ x / 256 / 128 * 2 ^ 8 + low = omega arith in
    let b : low % 2 ≡ x % 256 / 128 = omega arith in
    ap (λ (y : ℕ). bit_and y (repeated n 1 * 2 ^ 8 + 1)) e
    ∙ and_block 8 (x / 256 / 128) (repeated n 1) low 1 (omega arith) (lit< tt)
    ∙ ap (λ (y : ℕ). tops n (x / 256) * 2 ^ 8 + y) (and_mask low 1 ∙ b)

lows_step : (n x : ℕ) → lows (suc n) x ≡ lows n (x / 256) * 2 ^ 8 + x % 128
lows_step n x =
    let e : x ≡ x / 256 * 2 ^ 8 + x % 256 = omega arith in
    let b : x % 256 % 128 ≡ x % 128 = omega arith in
    ap (λ (y : ℕ). bit_and y (repeated n 0x7F * 2 ^ 8 + 0x7F)) e
    ∙ and_block 8 (x / 256) (repeated n 0x7F) (x % 256) 0x7F (omega arith) (lit< tt)
    ∙ ap (λ (y : ℕ). lows n (x / 256) * 2 ^ 8 + y) (and_mask (x % 256) 7 ∙ b)

-- a byte doubled: what leaves at the top takes 0x187 off, of which 0x100 is the bit itself
double_byte : (x : ℕ) → bit_xor (x % 128 * 2) (x % 256 / 128 * 0x87) ≡ double (x % 256)
unfolding double twice
double_byte x =
    let t = x % 256 / 128 in
    let low = bit_xor (x % 128 * 2) (t * 0x87) in
    let e1 : x % 256 * 2 ≡ t * 2 ^ 8 + x % 128 * 2 = omega arith in
    let e2 : x % 256 * 2 / 256 * 0x187 ≡ t * 2 ^ 8 + t * 0x87 = omega arith in
    sym (ap₂ bit_xor e1 e2 ∙ xor_block 8 t t (x % 128 * 2) (t * 0x87) (omega arith) (omega arith)
    ∙ ap (λ (y : ℕ). y * 2 ^ 8 + low) (xor_self t) ∙ zero-add low)

pub doubles : (n x : ℕ) → bit_xor (lows n x * 2) (tops n x * 0x87) ≡ each_byte double n x
unfolding each_byte
doubles zero x = ap₂ (λ (a b : ℕ). bit_xor (a * 2) (b * 0x87)) (le-zero (and_le_r x 0)) (le-zero (and_le_r (x / 128) 0))
doubles (suc n) x =
    let q = x / 256 in
    let e1 : lows (suc n) x * 2 ≡ lows n q * 2 * 2 ^ 8 + x % 128 * 2 = omega (arith, lows_step n x) in
    let e2 : tops (suc n) x * 0x87 ≡ tops n q * 0x87 * 2 ^ 8 + x % 256 / 128 * 0x87 = omega (arith, tops_step n x) in
    ap₂ bit_xor e1 e2
    ∙ xor_block 8 (lows n q * 2) (tops n q * 0x87) (x % 128 * 2) (x % 256 / 128 * 0x87) (omega arith) (omega arith)
    ∙ ap₂ (λ (a b : ℕ). a * 2 ^ 8 + b) (doubles n q) (double_byte x)

-- ---- one byte doubled, by cases of its highest bit

pub double_low : (b : ℕ) → b < 128 → b * 2 ≡ double b
double_low b h =
    let low : b * 2 ≡ b % 128 * 2 = omega arith in
    let top : 0 ≡ b % 256 / 128 * 0x87 = omega arith in
    let own : b % 256 ≡ b = omega arith in
    sym (xor_zero_r (b * 2)) ∙ ap₂ bit_xor low top ∙ double_byte b ∙ ap double own

pub double_high : (b : ℕ) → 128 ≤ b → b < 256 → bit_xor ((b - 128) * 2) 0x87 ≡ double b
double_high b h l =
    let low : (b - 128) * 2 ≡ b % 128 * 2 = omega arith in
    let top : 0x87 ≡ b % 256 / 128 * 0x87 = omega arith in
    let own : b % 256 ≡ b = omega arith in
    ap₂ bit_xor low top ∙ double_byte b ∙ ap double own
