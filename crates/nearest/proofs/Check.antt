-- The check at the end: the search changes at most 8 places, so what it finds is near exactly where its sums are 0, which makes it a codeword.
use mathlib.Core.Path.{◌≡◌, refl, sym, ap, ap₂, ◌∙◌, subst}
use mathlib.Core.Bool.{Bool, true, false, cond, false≢true}
use Rattle.std.specs.Prelude.{None, Some}
use mathlib.Core.List.{List, [], ◌∷◌, ◌++◌}
use Prim.Native.Nat.{ℕ, zero, suc, ◌+◌, ◌-◌, ◌≤◌, ◌<◌}
use native.Mathlib.Omega.{arith}
use lib.Dec.{eqb, lit≤}
use lib.Bits.{bit_xor, xor_lt}
use lib.ListN.{length, get_or, set, length-set}
use Rattle.basics.specs.Lists.{zeros, Bytes, same}
use Rattle.basics.proofs.Lists.{byte_at_lem}
use Rattle.basics.proofs.Tests.{same_true, same_self}
use Rattle.field.specs.Field.{times}
use Rattle.field.specs.Raised.{raised}
use Rattle.reed_solomon.specs.Roots.{locator}
use Rattle.reed_solomon.proofs.Laws.{Codeword, codeword_true}
use Rattle.nearest.specs.Near.{differences, near_word}
use Rattle.nearest.specs.Search.{Falling, error_at, error_locator, factor, fix_all, locators, places, search_for, sums_of, without_all}
use Rattle.nearest.proofs.Complete.{over_lt, search_finds}
use Rattle.nearest.proofs.Count.{places_falling, places_few}
use Rattle.nearest.proofs.Locator.{locator_kills, locator_long, locator_top, top_below}
use Rattle.nearest.proofs.Nearest.{near_nothing, near_one}
use Rattle.nearest.proofs.Nearness.{differences_self, near_code}
use Rattle.nearest.proofs.SumLaws.{codeword_sums, sums_bytes, sums_codeword}

-- there is room for the places
pub places_fit : (w s l : List ℕ) → s ≡ sums_of w → l ≡ error_locator s → length (places 255 l) ≤ 8
places_fit w s l es el =
    let S = sums_of w in
    let hS = sums_bytes 16 120 w in
    let t = locator_top S hS in
    subst (λ (L : List ℕ). length (places 255 L) ≤ 8) (sym (el ∙ ap error_locator es))
    (omega (arith, places_few t.0 (error_locator S) (locator_kills S hS).0 t.1, top_below t.0 (error_locator S) t.1, locator_long S hS))

pub places_fall : (P l : List ℕ) → P ≡ places 255 l → Falling 255 P
places_fall P l e = subst (Falling 255) (sym e) (places_falling 255 l)

pub is_search : (w s l P x : List ℕ) → s ≡ sums_of w → l ≡ error_locator s → P ≡ places 255 l → x ≡ fix_all s [] P w → x ≡ search_for w
unfolding search_for
is_search w s l P x es el eP ex =
    ex ∙ ap₂ (λ (S Q : List ℕ). fix_all S [] Q w) es (eP ∙ ap (λ (L : List ℕ). places 255 L) (el ∙ ap error_locator es))

bytes_set : (l : List ℕ) (i y : ℕ) → Bytes l → y < 256 → Bytes (set l i y)
bytes_set [] i y h hy = tt
bytes_set (x ∷ l) zero y h hy = (hy, h.1)
bytes_set (x ∷ l) (suc i) y h hy = (h.0, bytes_set l i y h.1 hy)

error_lt : (S : List ℕ) (x : ℕ) (Y : List ℕ) → error_at S x Y < 256
unfolding error_at
error_lt S x Y = over_lt (get_or (without_all Y S) 0 0) (times (factor x Y) (raised x 120))

fix_bytes : (S A B v : List ℕ) → Bytes v → Bytes (fix_all S A B v)
unfolding fix_all
fix_bytes S A [] v h = h
fix_bytes S A (n ∷ B) v h =
    fix_bytes S (A ++ n ∷ []) B (set v (254 - n) (bit_xor (get_or v (254 - n) 0) (error_at S (locator n) (locators (A ++ B)))))
    (bytes_set v (254 - n) _ h
    (xor_lt 8 (get_or v (254 - n) 0) (error_at S (locator n) (locators (A ++ B))) (byte_at_lem v h (254 - n)) (error_lt S (locator n) (locators (A ++ B)))))

search_bytes : (w : List ℕ) → Bytes w → Bytes (search_for w)
unfolding search_for
search_bytes w h = fix_bytes (sums_of w) [] (places 255 (error_locator (sums_of w))) w h

fix_length : (S A B v : List ℕ) → length (fix_all S A B v) ≡ length v
unfolding fix_all
fix_length S A [] v = refl
fix_length S A (n ∷ B) v = fix_length S (A ++ n ∷ []) B (set v (254 - n) _) ∙ length-set v (254 - n) _

search_length : (w : List ℕ) → length (search_for w) ≡ length w
unfolding search_for
search_length w = fix_length (sums_of w) [] (places 255 (error_locator (sums_of w))) w

-- ---- at most one difference more for each place

differences_set : (v w : List ℕ) (i y : ℕ) → differences (set v i y) w ≤ suc (differences v w)
unfolding differences
differences_set [] w i y = omega arith
differences_set (x ∷ v) [] zero y = omega arith
differences_set (x ∷ v) [] (suc i) y = omega arith
differences_set (x ∷ v) (z ∷ w) zero y = omega (arith, one_most (eqb y z))
  where
    one_most : (b : Bool) → cond b 0 1 ≤ 1
    one_most true = lit≤ tt
    one_most false = lit≤ tt
differences_set (x ∷ v) (z ∷ w) (suc i) y = omega (arith, differences_set v w i y)

fix_differences : (S A B v w : List ℕ) → differences (fix_all S A B v) w ≤ length B + differences v w
unfolding fix_all
fix_differences S A [] v w = omega arith
fix_differences S A (n ∷ B) v w =
    let y = bit_xor (get_or v (254 - n) 0) (error_at S (locator n) (locators (A ++ B))) in
    omega (arith, fix_differences S (A ++ n ∷ []) B (set v (254 - n) y) w, differences_set v w (254 - n) y)

search_differences : (w : List ℕ) → differences (search_for w) w ≤ 8
unfolding search_for
search_differences w =
    let P = places 255 (error_locator (sums_of w)) in
    omega (arith, fix_differences (sums_of w) [] P w w, places_fit w (sums_of w) (error_locator (sums_of w)) refl refl, differences_self w)

-- ---- the test at the end decides

module _ (w x t : List ℕ) (long : length w ≡ 255) (hw : Bytes w) (e : x ≡ search_for w) (et : t ≡ sums_of x) where
  bytes : Bytes x
  bytes = subst Bytes (sym e) (search_bytes w hw)

  pub tested_found : same t (zeros 16) ≡ true → near_word w ≡ Some x
  tested_found q =
      let code = sums_codeword x (ap length e ∙ search_length w ∙ long) bytes (sym et ∙ same_true t (zeros 16) q) in
      near_one w long x (bytes, codeword_true x code, subst (λ (y : List ℕ). differences y w ≤ 8) (sym e) (search_differences w))

  pub tested_none : same t (zeros 16) ≡ false → near_word w ≡ None
  tested_none q =
      near_nothing w long (λ c n.
      let s : c ≡ x = sym (search_finds w c long hw n) ∙ sym e in
      let z : t ≡ zeros 16 = et ∙ codeword_sums x bytes (subst Codeword s (near_code w c long n)) in
      false≢true (sym q ∙ ap (λ (l : List ℕ). same l (zeros 16)) z ∙ same_self (zeros 16)))
