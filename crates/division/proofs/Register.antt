-- Long division by a register of as many places as the divisor has below its leading one.
use mathlib.Core.Path.{◌≡◌, refl, sym, ap, ap₂, ◌∙◌, subst}
use mathlib.Core.List.{List, [], ◌∷◌, ◌++◌}
use Prim.Native.Nat.{ℕ, zero, suc, ◌+◌, ◌≤◌, ◌<◌}
use native.Mathlib.Nat.{suc_inj, le_of_suc-le-suc, not-suc-le-zero, suc-ne-zero, le_of_eq}
use native.Mathlib.Omega.{arith}
use lib.Bits.{bit_xor, xor_comm, xor_zero_r}
use native.Mathlib.Numerals.{add-one}
use lib.Seq.{drop-cons}
use lib.ListN.{drop, drop_of_length-le, length, get_or, length-append}
use Rattle.basics.proofs.Xor.{xor_assoc, xor_zero_eq}
use Rattle.basics.specs.Lists.{zeros}
use Rattle.basics.proofs.Lists.{zeros_length, zeros_snoc, zero_behind}
use Rattle.division.specs.Register.{step, feed}
use Rattle.division.specs.Division.{plus, scale, remainder, check}

-- ---- sums of lists

pub plus_nil : (xs : List ℕ) → plus xs [] ≡ xs
unfolding plus
plus_nil [] = refl
plus_nil (x ∷ xs) = refl

pub plus_assoc : (xs ys zs : List ℕ) → plus (plus xs ys) zs ≡ plus xs (plus ys zs)
unfolding plus
plus_assoc [] ys zs = refl
plus_assoc (x ∷ xs) [] zs = refl
plus_assoc (x ∷ xs) (y ∷ ys) [] = refl
plus_assoc (x ∷ xs) (y ∷ ys) (z ∷ zs) = ap₂ (λ (h : ℕ) (t : List ℕ). h ∷ t) (xor_assoc x y z) (plus_assoc xs ys zs)

pub plus_length : (xs ys : List ℕ) (n : ℕ) → length xs ≡ n → length ys ≡ n → length (plus xs ys) ≡ n
unfolding plus
plus_length [] ys n p q = q
plus_length (x ∷ xs) [] n p q = p
plus_length (x ∷ xs) (y ∷ ys) n p q = ap suc (plus_length xs ys (length ys) (suc_inj (p ∙ sym q)) refl) ∙ q

-- a zero behind a shorter list adds nothing
pub plus_zero_behind : (t ys : List ℕ) → length t < length ys → plus (t ++ 0 ∷ []) ys ≡ plus t ys
unfolding plus
plus_zero_behind [] [] h = absurd (not-suc-le-zero h)
plus_zero_behind [] (y ∷ ys) h = refl
plus_zero_behind (x ∷ t) [] h = absurd (not-suc-le-zero h)
plus_zero_behind (x ∷ t) (y ∷ ys) h = ap (λ (l : List ℕ). bit_xor x y ∷ l) (plus_zero_behind t ys (le_of_suc-le-suc h))

-- zeros add nothing
pub plus_zeros : (n : ℕ) (ys : List ℕ) → n ≤ length ys → plus (zeros n) ys ≡ ys
unfolding plus
plus_zeros zero ys h = refl
plus_zeros (suc n) [] h = absurd (not-suc-le-zero h)
plus_zeros (suc n) (y ∷ ys) h = ap (λ (l : List ℕ). y ∷ l) (plus_zeros n ys (le_of_suc-le-suc h))

pub plus_comm : (xs ys : List ℕ) → plus xs ys ≡ plus ys xs
unfolding plus
plus_comm [] ys = sym (plus_nil ys)
plus_comm (x ∷ xs) [] = refl
plus_comm (x ∷ xs) (y ∷ ys) = ap₂ (λ (h : ℕ) (t : List ℕ). h ∷ t) (xor_comm x y) (plus_comm xs ys)

pub plus_get_or : (xs ys : List ℕ) (k : ℕ) → get_or (plus xs ys) k 0 ≡ bit_xor (get_or xs k 0) (get_or ys k 0)
unfolding plus
plus_get_or [] ys k = refl
plus_get_or (x ∷ xs) [] k = sym (xor_zero_r (get_or (x ∷ xs) k 0))
plus_get_or (x ∷ xs) (y ∷ ys) zero = refl
plus_get_or (x ∷ xs) (y ∷ ys) (suc k) = plus_get_or xs ys k

module _ (times : ℕ → ℕ → ℕ) where
  pub scale_length : (c : ℕ) (xs : List ℕ) → length (scale times c xs) ≡ length xs
  unfolding scale
  scale_length c [] = refl
  scale_length c (x ∷ xs) = ap suc (scale_length c xs)

  pub scale_get_or : (c : ℕ) (xs : List ℕ) (k : ℕ) → k < length xs → get_or (scale times c xs) k 0 ≡ times c (get_or xs k 0)
  unfolding scale
  scale_get_or c [] k h = absurd (not-suc-le-zero h)
  scale_get_or c (x ∷ xs) zero h = refl
  scale_get_or c (x ∷ xs) (suc k) h = scale_get_or c xs k (le_of_suc-le-suc h)

  -- ---- the register

  pub step_length : (g s : List ℕ) (d : ℕ) → length s ≡ length g → length (step times g s d) ≡ length g
  unfolding step
  step_length g [] d e = e
  step_length g (h ∷ t) d e =
      plus_length (scale times (bit_xor h d) g) (t ++ 0 ∷ []) (length g) (scale_length (bit_xor h d) g)
      (length-append t (0 ∷ []) ∙ add-one (length t) ∙ e)

  -- the register's places after a step, one by one
  pub step_get_or : (g s : List ℕ) (d k : ℕ) → length s ≡ length g → k < length g
      → get_or (step times g s d) k 0 ≡ bit_xor (times (bit_xor (get_or s 0 0) d) (get_or g k 0)) (get_or s (suc k) 0)
  unfolding step
  step_get_or g [] d k e h = absurd (not-suc-le-zero (subst (λ (n : ℕ). k < n) (sym e) h))
  step_get_or g (x ∷ t) d k e h =
      plus_get_or (scale times (bit_xor x d) g) (t ++ 0 ∷ []) k
      ∙ ap₂ bit_xor (scale_get_or (bit_xor x d) g k h) (zero_behind t k)

  pub feed_length : (g s m : List ℕ) → length s ≡ length g → length (feed times g s m) ≡ length g
  unfolding feed
  feed_length g s [] e = e
  feed_length g s (d ∷ m) e = feed_length g (step times g s d) m (step_length g s d e)

  -- a loop over a list: a turn, and the end
  pub feed_turn : (g s m : List ℕ) (i : ℕ) → i < length m → feed times g s (drop i m) ≡ feed times g (step times g s (get_or m i 0)) (drop (i + 1) m)
  unfolding feed
  feed_turn g s m i h = ap (feed times g s) (drop-cons m i 0 h) ∙ ap (λ (k : ℕ). feed times g (step times g s (get_or m i 0)) (drop k m)) (sym (add-one i))

  pub feed_end : (g s m : List ℕ) (i : ℕ) → length m ≤ i → feed times g s (drop i m) ≡ s
  unfolding feed
  feed_end g s m i h = ap (feed times g s) (drop_of_length-le m h)

  -- what stands in the register is what long division still has to take off
  pub divide : (g s m p : List ℕ) (L : ℕ) → length g ≡ suc L → length s ≡ suc L → length p ≡ suc L
      → remainder times g (length m) (plus s (m ++ p)) ≡ plus (feed times g s m) p
  unfolding remainder plus scale feed
  divide g s [] p L hg hs hp = refl
  divide g [] (d ∷ m) p L hg hs hp = absurd (suc-ne-zero L (sym hs))
  divide g (h ∷ t) (d ∷ m) p L hg hs hp =
      let long : length t < length (m ++ p) = omega (arith, length-append m p, suc_inj hs) in
      ap (remainder times g (length m))
      (ap (plus (scale times (bit_xor h d) g)) (sym (plus_zero_behind t (m ++ p) long))
      ∙ sym (plus_assoc (scale times (bit_xor h d) g) (t ++ 0 ∷ []) (m ++ p)))
      ∙ divide g (step times g (h ∷ t) d) m p L hg (step_length g (h ∷ t) d (hs ∙ sym hg) ∙ hg) hp

  -- the remainder of m times x^L is what a register of zeros holds after m
  pub check_feed : (g m : List ℕ) (L : ℕ) → length g ≡ suc L → check times g m ≡ feed times g (zeros (suc L)) m
  unfolding check remainder
  check_feed g m L hg =
      let Z = zeros (suc L) in
      let hz : length Z ≡ suc L = zeros_length (suc L) in
      ap (λ (n : ℕ). remainder times g (length m) (m ++ zeros n)) hg
      ∙ ap (remainder times g (length m)) (sym (plus_zeros (suc L) (m ++ Z) (omega (arith, length-append m Z))))
      ∙ divide g Z m Z L hg hz hz
      ∙ plus_comm (feed times g Z m) Z
      ∙ plus_zeros (suc L) (feed times g Z m) (omega (arith, feed_length g Z m (hz ∙ sym hg)))

  -- The word m ++ p is a multiple of the divisor exactly where p is the remainder of m times x^L: the two, added, are what division leaves of it
  pub word_remainder : (g m p : List ℕ) (L : ℕ) → length g ≡ suc L → length p ≡ suc L
      → remainder times g (length m) (m ++ p) ≡ plus (check times g m) p
  word_remainder g m p L hg hp =
      let Z = zeros (suc L) in
      ap (remainder times g (length m)) (sym (plus_zeros (suc L) (m ++ p) (omega (arith, length-append m p))))
      ∙ divide g Z m p L hg (zeros_length (suc L)) hp
      ∙ ap (λ (l : List ℕ). plus l p) (sym (check_feed g m L hg))

-- two lists of one length add to zeros exactly where they are equal
pub plus_self : (xs : List ℕ) → plus xs xs ≡ zeros (length xs)
unfolding plus
plus_self [] = refl
plus_self (x ∷ xs) = ap₂ (λ (h : ℕ) (t : List ℕ). h ∷ t) (lib.Bits.xor_self x) (plus_self xs)

pub plus_zero_eq : (xs ys : List ℕ) → length xs ≡ length ys → plus xs ys ≡ zeros (length ys) → xs ≡ ys
unfolding plus
plus_zero_eq [] [] l e = refl
plus_zero_eq [] (y ∷ ys) l e = absurd (suc-ne-zero (length ys) (sym l))
plus_zero_eq (x ∷ xs) [] l e = absurd (suc-ne-zero (length xs) l)
plus_zero_eq (x ∷ xs) (y ∷ ys) l e =
    ap₂ (λ (h : ℕ) (t : List ℕ). h ∷ t) (xor_zero_eq x y (ap (λ (l : List ℕ). get_or l 0 0) e))
    (plus_zero_eq xs ys (suc_inj l) (ap (λ (l : List ℕ). mathlib.Core.List.tail l) e))

-- ---- zeros in front of a message change nothing: a shortened code

module _ (times : ℕ → ℕ → ℕ) (zero_times : (x : ℕ) → times 0 x ≡ 0) where
  scale_zero : (g : List ℕ) → scale times 0 g ≡ zeros (length g)
  unfolding scale
  scale_zero [] = refl
  scale_zero (x ∷ g) = ap₂ (λ (h : ℕ) (t : List ℕ). h ∷ t) (zero_times x) (scale_zero g)

  step_zero : (g : List ℕ) (L : ℕ) → length g ≡ suc L → step times g (zeros (suc L)) 0 ≡ zeros (suc L)
  unfolding step
  step_zero g L e =
      ap₂ plus (scale_zero g ∙ ap zeros e) (zeros_snoc L)
      ∙ plus_zeros (suc L) (zeros (suc L)) (le_of_eq (sym (zeros_length (suc L))))

  pub zeros_in_front : (g m : List ℕ) (n L : ℕ) → length g ≡ suc L → feed times g (zeros (suc L)) (zeros n ++ m) ≡ feed times g (zeros (suc L)) m
  unfolding feed
  zeros_in_front g m zero L e = refl
  zeros_in_front g m (suc n) L e = ap (λ (s : List ℕ). feed times g s (zeros n ++ m)) (step_zero g L e) ∙ zeros_in_front g m n L e

  pub check_zeros : (g m : List ℕ) (n L : ℕ) → length g ≡ suc L → check times g (zeros n ++ m) ≡ check times g m
  check_zeros g m n L e = check_feed times g (zeros n ++ m) L e ∙ zeros_in_front g m n L e ∙ sym (check_feed times g m L e)
