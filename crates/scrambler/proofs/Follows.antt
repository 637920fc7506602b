-- The numbers of the key follow the recurrence of its bits: numbers of n bytes each, as far apart as any power of two, from whichever byte on.
use mathlib.Core.Path.{◌≡◌, refl, sym, ap, ap₂, ◌∙◌, subst}
use Prim.Native.Nat.{ℕ, zero, suc, ◌+◌, ◌*◌, ◌/◌, ◌%◌, ◌^◌, ◌<◌}
use native.Mathlib.Nat.{mod-lt, zero-add, suc-add, mul-zero, mul-one, mul_assoc, mul_comm, mul-add, pow-suc}
use native.Mathlib.Numerals.{add-one}
use native.Mathlib.Omega.{arith}
use lib.Dec.{lit<}
use lib.Bits.{bit_xor}
use Rattle.basics.proofs.Xor.{bit_cases, bit_mul_lt}
use Rattle.basics.specs.Numbers.{digit}
use Rattle.scrambler.specs.Scrambler.{sum_below, after, first_stages, bit, key_byte}
use Rattle.scrambler.specs.Keys.{key, key_number}
use Rattle.scrambler.proofs.Stages.{after_add}
use Rattle.scrambler.proofs.KeyBytes.{key_byte_lem}
use Rattle.scrambler.proofs.Recurrence.{recurrence}
use Rattle.scrambler.proofs.Steps.{key_lt}
use Rattle.scrambler.proofs.Square.{total, total_same, total_zero, Follows, Bits, squared, every_second, together}

-- ---- the recurrence, as a sum modulo 2 of bits

odd_sum : (u s : ℕ) → u < 2 → (u + s) % 2 ≡ bit_xor u (s % 2)
odd_sum u s =
    bit_cases (λ u. (u + s) % 2 ≡ bit_xor u (s % 2)) (ap (λ (x : ℕ). x % 2) (zero-add s))
    (bit_cases (λ w. s % 2 ≡ w → (1 + s) % 2 ≡ bit_xor 1 w) (λ e. omega (arith, e)) (λ e. omega (arith, e)) (s % 2) (mod-lt s (lit< tt)) refl)
    u

sum_total : (n : ℕ) (f : ℕ → ℕ) → ((i : ℕ) → f i < 2) → sum_below n f % 2 ≡ total n f
unfolding sum_below total
sum_total zero f b = refl
sum_total (suc n) f b = odd_sum (f 0) (sum_below n (λ i. f (suc i))) (b 0) ∙ ap (bit_xor (f 0)) (sum_total n (λ i. f (suc i)) (λ i. b (suc i)))

module _ (taps : ℕ) where
  abbrev pub taken : ℕ → ℕ
  taken i = digit i taps

  bits : Bits taken
  bits i = mod-lt (taps / 2 ^ i) (lit< tt)

  bit_lt : (k : ℕ) → bit taps k < 2
  unfolding bit
  bit_lt k = mod-lt (after taps k first_stages / 1) (lit< tt)

  bits_follow : Follows 25 taken (bit taps)
  bits_follow k =
      recurrence taps k
      ∙ sum_total 25 (λ i. digit i taps * bit taps (k + i)) (λ i. bit_mul_lt (digit i taps) (bit taps (k + i)) 2 (bits i) (bit_lt (k + i)))

  -- ---- what follows it

  follows_same : (v w : ℕ → ℕ) → ((k : ℕ) → v k ≡ w k) → Follows 25 taken v → Follows 25 taken w
  follows_same v w e f k =
      sym (e (k + 25)) ∙ f k ∙ total_same 25 (λ i. taken i * v (k + i)) (λ i. taken i * w (k + i)) (λ i. ap (λ (x : ℕ). taken i * x) (e (k + i)))

  follows_zero : Follows 25 taken (λ k. 0)
  follows_zero k = sym (total_same 25 (λ i. taken i * 0) (λ i. 0) (λ i. mul-zero (taken i)) ∙ total_zero 25)

  -- numbers 2^m apart, from place r on
  strided : (v : ℕ → ℕ) → Follows 25 taken v → (m r : ℕ) → Follows 25 taken (λ k. v (r + 2 ^ m * k))
  strided v f zero r = λ k.
      let e : r + 1 * (k + 25) ≡ r + 1 * k + 25 = omega arith in
      ap v e ∙ f (r + 1 * k)
      ∙ total_same 25 (λ i. taken i * v (r + 1 * k + i)) (λ i. taken i * v (r + 1 * (k + i)))
      (λ i. let e : r + 1 * k + i ≡ r + 1 * (k + i) = omega arith in ap (λ (j : ℕ). taken i * v j) e)
  strided v f (suc m) r =
      follows_same (λ k. v (r + 2 ^ m * (0 + 2 * k))) (λ k. v (r + 2 ^ suc m * k))
      (λ k. ap (λ (j : ℕ). v (r + j)) (ap (λ (j : ℕ). 2 ^ m * j) (zero-add (2 * k)) ∙ sym (mul_assoc (2 ^ m) 2 k) ∙ ap (λ (j : ℕ). j * k) (sym (pow-suc 2 m))))
      (every_second 25 0 taken (λ k. v (r + 2 ^ m * k)) bits (strided v f m r))

  -- n bits from bit r on
  key_follows : (n m r : ℕ) → Follows 25 taken (λ k. key taps n (after taps (r + 2 ^ m * k) first_stages))
  unfolding key bit after
  key_follows zero m r = follows_zero
  key_follows (suc n) m r =
      follows_same (λ k. bit taps (r + 2 ^ m * k) * 2 ^ n + key taps n (after taps (suc r + 2 ^ m * k) first_stages))
      (λ k. key taps (suc n) (after taps (r + 2 ^ m * k) first_stages))
      (λ k.
      let p = r + 2 ^ m * k in
      ap (λ (s : ℕ). digit 0 (after taps p first_stages) * 2 ^ n + key taps n s)
      (ap (λ (j : ℕ). after taps j first_stages) (suc-add r (2 ^ m * k) ∙ sym (add-one p)) ∙ after_add taps p 1 first_stages))
      (together n 25 taken (λ k. bit taps (r + 2 ^ m * k)) (λ k. key taps n (after taps (suc r + 2 ^ m * k) first_stages)) bits
      (λ k. key_lt taps n (after taps (suc r + 2 ^ m * k) first_stages)) (strided (bit taps) bits_follow m r) (key_follows n m (suc r)))

  bytes_follow : Follows 25 taken (key_byte taps)
  bytes_follow =
      follows_same (λ k. key taps 8 (after taps (0 + 2 ^ 3 * k) first_stages)) (key_byte taps)
      (λ k. ap (λ (j : ℕ). key taps 8 (after taps j first_stages)) (zero-add (8 * k)) ∙ sym (key_byte_lem taps k)) (key_follows 8 3 0)

  pub key_byte_lt : (i : ℕ) → key_byte taps i < 256
  key_byte_lt i = subst (λ (x : ℕ). x < 256) (sym (key_byte_lem taps i)) (key_lt taps 8 (after taps (8 * i) first_stages))

  -- n bytes from byte r on
  number_follows : (n m r : ℕ) → Follows 25 taken (λ k. key_number taps n (r + 2 ^ m * k))
  unfolding key_number
  number_follows zero m r = follows_zero
  number_follows (suc n) m r =
      follows_same (λ k. key_number taps n (suc r + 2 ^ m * k) * 2 ^ 8 + key_byte taps (r + 2 ^ m * k)) (λ k. key_number taps (suc n) (r + 2 ^ m * k))
      (λ k. ap (λ (j : ℕ). key_number taps n j * 2 ^ 8 + key_byte taps (r + 2 ^ m * k)) (suc-add r (2 ^ m * k)))
      (together 8 25 taken (λ k. key_number taps n (suc r + 2 ^ m * k)) (λ k. key_byte taps (r + 2 ^ m * k)) bits
      (λ k. key_byte_lt (r + 2 ^ m * k)) (number_follows n m (suc r)) (strided (key_byte taps) bytes_follow m r))

  -- numbers of n bytes, one after the other
  abbrev pub level : ℕ → ℕ → ℕ
  level n k = key_number taps n (n * k)

  pub level_follows : (m : ℕ) → Follows 25 taken (level (2 ^ m))
  level_follows m =
      follows_same (λ k. key_number taps (2 ^ m) (0 + 2 ^ m * k)) (level (2 ^ m)) (λ k. ap (key_number taps (2 ^ m)) (zero-add (2 ^ m * k)))
      (number_follows (2 ^ m) m 0)

  -- the words from byte r on
  abbrev pub words_from : ℕ → ℕ → ℕ
  words_from r k = key_number taps 8 (r + 8 * k)

  pub words_squared : (r k : ℕ) → words_from r (k + 25 + 25) ≡ total 25 (λ i. taken i * words_from r (k + i + i))
  words_squared r = squared 25 taken (words_from r) bits (number_follows 8 3 r)

  -- ---- how they are put together

  pub key_number_lt : (n i : ℕ) → key_number taps n i < 256 ^ n
  unfolding key_number
  key_number_lt zero i = lit< tt
  key_number_lt (suc n) i = omega (arith, key_number_lt n (suc i), key_byte_lt i, pow-suc 256 n)

  number_join : (m n i : ℕ) → key_number taps n (m + i) * 256 ^ m + key_number taps m i ≡ key_number taps (m + n) i
  unfolding key_number
  number_join zero n i =
      let e : key_number taps n (0 + i) * 1 + 0 ≡ key_number taps n (0 + i) = omega arith in
      e ∙ ap₂ (λ (a b : ℕ). key_number taps a b) (sym (zero-add n)) (zero-add i)
  number_join (suc m) n i =
      let h = key_number taps n (m + suc i) in
      let l = key_number taps m (suc i) in
      let p : suc m + i ≡ m + suc i = omega arith in
      let q : h * 256 ^ suc m ≡ h * 256 ^ m * 256 = ap (λ (x : ℕ). h * x) (pow-suc 256 m) ∙ sym (mul_assoc h (256 ^ m) 256) in
      ap (λ (j : ℕ). key_number taps n j * 256 ^ suc m + (l * 2 ^ 8 + key_byte taps i)) p
      ∙ ap (λ (x : ℕ). x + (l * 2 ^ 8 + key_byte taps i)) q
      ∙ (let g : h * 256 ^ m * 256 + (l * 2 ^ 8 + key_byte taps i) ≡ (h * 256 ^ m + l) * 2 ^ 8 + key_byte taps i = omega arith in g)
      ∙ ap (λ (x : ℕ). x * 2 ^ 8 + key_byte taps i) (number_join m n (suc i))
      ∙ ap (λ (k : ℕ). key_number taps k i) (sym (suc-add m n))

  -- two neighbours of n bytes each
  pub level_join : (n k : ℕ) → level n (1 + 2 * k) * 256 ^ n + level n (2 * k) ≡ level (n + n) k
  level_join n k =
      ap₂ (λ (a b : ℕ). key_number taps n a * 256 ^ n + key_number taps n b)
      (mul-add n 1 (2 * k) ∙ ap₂ (λ (a b : ℕ). a + b) (mul-one n) (twice n k)) (twice n k)
      ∙ number_join n n ((n + n) * k)
    where
      twice : (n k : ℕ) → n * (2 * k) ≡ (n + n) * k
      twice n k = sym (mul_assoc n 2 k) ∙ ap (λ (x : ℕ). x * k) (mul_comm n 2 ∙ (let e : 2 * n ≡ n + n = omega arith in e))
