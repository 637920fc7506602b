-- Two functions that keep sums and agree at 1, 2, 4, .. agree. So a law that keeps sums in each of its variables is proved by computing it at
-- the powers of two alone.
use mathlib.Core.Path.{◌≡◌, sym, ap, ap₂, ◌∙◌, subst}
use Prim.Native.Nat.{ℕ, zero, suc, ◌*◌, ◌/◌, ◌%◌, ◌^◌, ◌≤◌, ◌<◌}
use native.Mathlib.Nat.{mod-lt, zero-mul, one-mul, le_refl, le_of_lt, lt_trans, div-lt_iff_lt-mul, pow-suc, mul_comm}
use lib.Arith.{lt-one}
use lib.Pow.{pow_pos, pow-lt, split}
use lib.Bits.{bit_xor, xor_self, xor_shifted}
use Rattle.basics.proofs.Xor.{bit_cases}

-- f keeps sums of numbers below 2^m
abbrev pub Additive : ℕ → (ℕ → ℕ) → Type 0
Additive m f = (a b : ℕ) → a < 2 ^ m → b < 2 ^ m → f (bit_xor a b) ≡ bit_xor (f a) (f b)

pub additive_zero : (m : ℕ) (f : ℕ → ℕ) → Additive m f → f 0 ≡ 0
additive_zero m f h =
    let e : f 0 ≡ bit_xor (f 0) (f 0) = h 0 0 (pow_pos m) (pow_pos m) in e ∙ xor_self (f 0)

module _ (m : ℕ) (f g : ℕ → ℕ) (hf : Additive m f) (hg : Additive m g) where
  agree_bit : (k : ℕ) → k < m → f (2 ^ k) ≡ g (2 ^ k) → (u : ℕ) → u < 2 → f (u * 2 ^ k) ≡ g (u * 2 ^ k)
  agree_bit k hk e =
      bit_cases (λ u. f (u * 2 ^ k) ≡ g (u * 2 ^ k))
      (ap f (zero-mul (2 ^ k)) ∙ additive_zero m f hf ∙ sym (additive_zero m g hg) ∙ ap g (sym (zero-mul (2 ^ k))))
      (ap f (one-mul (2 ^ k)) ∙ e ∙ ap g (sym (one-mul (2 ^ k))))

  -- the top bit and the rest
  split_xor : (k x : ℕ) → bit_xor (x / 2 ^ k * 2 ^ k) (x % 2 ^ k) ≡ x
  split_xor k x = xor_shifted (x / 2 ^ k) k (x % 2 ^ k) (mod-lt x (pow_pos k)) ∙ split x k

  top_bit : (k x : ℕ) → x < 2 ^ suc k → x / 2 ^ k < 2
  top_bit k x h = (div-lt_iff_lt-mul (pow_pos k)).1 (subst (λ (y : ℕ). x < y) (pow-suc 2 k ∙ mul_comm (2 ^ k) 2) h)

  bit_lt : (k u : ℕ) → k < m → u < 2 → u * 2 ^ k < 2 ^ m
  bit_lt k u hk hu =
      bit_cases (λ u. u * 2 ^ k < 2 ^ m)
      (subst (λ (y : ℕ). y < 2 ^ m) (sym (zero-mul (2 ^ k))) (pow_pos m))
      (subst (λ (y : ℕ). y < 2 ^ m) (sym (one-mul (2 ^ k))) (pow-lt hk)) u hu

  agree_below : (k : ℕ) → k ≤ m → ((j : ℕ) → j < k → f (2 ^ j) ≡ g (2 ^ j)) → (x : ℕ) → x < 2 ^ k → f x ≡ g x
  agree_below zero hk e x h = ap f (lt-one h) ∙ additive_zero m f hf ∙ sym (additive_zero m g hg) ∙ ap g (sym (lt-one h))
  agree_below (suc k) hk e x h =
      let u = x / 2 ^ k * 2 ^ k in
      let v = x % 2 ^ k in
      let hu : u < 2 ^ m = bit_lt k (x / 2 ^ k) hk (top_bit k x h) in
      let hv : v < 2 ^ m = lt_trans (mod-lt x (pow_pos k)) (pow-lt hk) in
      ap f (sym (split_xor k x)) ∙ hf u v hu hv
      ∙ ap₂ bit_xor (agree_bit k hk (e k (le_refl (suc k))) (x / 2 ^ k) (top_bit k x h))
      (agree_below k (le_of_lt hk) (λ j hj. e j (lt_trans hj (le_refl (suc k)))) v (mod-lt x (pow_pos k)))
      ∙ sym (hg u v hu hv) ∙ ap g (split_xor k x)

  pub agree : ((j : ℕ) → j < m → f (2 ^ j) ≡ g (2 ^ j)) → (x : ℕ) → x < 2 ^ m → f x ≡ g x
  agree e = agree_below m (le_refl m) e
