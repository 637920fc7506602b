-- The search finds the codeword that is near, if there is one (`search_finds`).
use mathlib.Core.Path.{◌≡◌, refl, sym, ap, ap₂, ◌∙◌, subst}
use mathlib.Core.Logic.{inl, inr, ⊎_elim}
use mathlib.Core.List.{List, [], ◌∷◌, ◌++◌, append_assoc, append-nil}
use Prim.Native.Nat.{ℕ, suc, ◌+◌, ◌-◌, ◌*◌, ◌≤◌, ◌<◌}
use native.Mathlib.Nat.{le_of_eq, le_refl}
use native.Mathlib.Omega.{arith}
use lib.Bits.{bit_xor, xor_lt, xor_comm}
use lib.ListN.{length, get_or, set, length-set}
use lib.Seq.{ext_get_or, get_or-set_same, get_or-set_other}
use Rattle.basics.specs.Lists.{Bytes}
use Rattle.basics.proofs.Lists.{byte_at_lem}
use Rattle.basics.proofs.Xor.{xor_zero_eq, xor_cancel}
use Rattle.field.specs.Field.{power, times}
use Rattle.field.specs.Raised.{raised, inverse_of}
use Rattle.field.proofs.Laws.{times_assoc, power_lt, times_lt, times_one}
use Rattle.field.proofs.Powers.{inverse_lt, inverse_times}
use Rattle.field.proofs.Raised.{raised_power}
use Rattle.division.proofs.Register.{plus_get_or, plus_length}
use Rattle.division.specs.Division.{plus}
use Rattle.reed_solomon.specs.Roots.{locator}
use Rattle.reed_solomon.proofs.Distance.{zero_of}
use Rattle.reed_solomon.proofs.Laws.{Codeword, codeword_length}
use Rattle.reed_solomon.proofs.Places.{pos_or_zero, AllZero}
use Rattle.reed_solomon.proofs.Roots.{plus_bytes, codeword_terms}
use Rattle.nearest.specs.Search.{Falling, error_at, error_locator, factor, fix_all, locators, over, places, search_for, sums, sums_of, value_at, without}
use Rattle.nearest.specs.Search.{without_all}
use Rattle.nearest.proofs.Count.{places_all, places_falling, places_few}
use Rattle.nearest.proofs.ErrorLaws.{Only, divisor_not_zero, error_is, through_at, zero_at}
use Rattle.nearest.proofs.Locator.{locator_kills, locator_long, locator_top, top_below}
use Rattle.nearest.proofs.Nearness.{NearWord, near_code, near_light}
use Rattle.nearest.proofs.PlaceLists.{Apart, Member, apart_not, falling_apart, falling_in, length_other, member_behind, member_front, member_or}
use Rattle.nearest.proofs.PlaceLists.{member_split, move_last, same_or}
use Rattle.nearest.proofs.Polynomial.{Kills, through, value_at_lt, vanish}
use Rattle.nearest.proofs.SumLaws.{sums_bytes, sums_error}

module _ (w c : List ℕ) (long : length w ≡ 255) (hw : Bytes w) (near : NearWord w c) where
  code : Codeword c
  code = near_code w c long near

  error_bytes : Bytes (plus c w)
  error_bytes = plus_bytes c w near.0 hw

  error_long : length (plus c w) ≡ 255
  error_long = plus_length c w 255 (codeword_length c code) long

  error_sums : sums_of (plus c w) ≡ sums_of w
  error_sums = sums_error 16 120 c w (codeword_length c code ∙ sym long) (codeword_terms c near.0 code)

  -- the error is 0 but where L is
  wrong_places : (L : List ℕ) → Bytes L → length L ≤ 9 → Kills 8 L (sums_of w) → Only (places 255 L) (plus c w)
  wrong_places L hL lL k i n h =
      let e = plus c w in
      let h' : i + suc n ≡ 255 = h ∙ error_long in
      let z : AllZero (through L e) =
      vanish 8 16 120 L e hL error_bytes (le_of_eq error_long) (near_light w c long near) (omega (arith, lL)) (subst (Kills 8 L) (sym error_sums) k) in
      let t : times (get_or e i 0) (value_at (locator n) L) ≡ 0 = sym (through_at L i n e h) ∙ zero_at (through L e) i z in
      ⊎_elim (λ v. inr (places_all 255 n L (omega (arith, h')) v))
      (λ v. inl (zero_of (get_or e i 0) (value_at (locator n) L) (byte_at_lem e error_bytes i) (value_at_lt (locator n) L hL) t v))
      (same_or (value_at (locator n) L) 0)

  error_at_lem : (i : ℕ) → get_or (plus c w) i 0 ≡ bit_xor (get_or c i 0) (get_or w i 0)
  error_at_lem i = plus_get_or c w i

  -- what solves the equation for the error repairs the place
  right_error : (P : List ℕ) (m i n r : ℕ) → length P + suc m ≡ 16 → i + suc n ≡ 255 → Only (P ++ n ∷ []) (plus c w) → Apart n P
      → r < 256
      → times r (times (factor (locator n) (locators P)) (power (11 * 120 * n))) ≡ get_or (without_all (locators P) (sums_of w)) 0 0
      → bit_xor (get_or w i 0) r ≡ get_or c i 0
  right_error P m i n r l h o a hr s =
      let e = plus c w in
      let v : r ≡ get_or e i 0 =
      error_is P m 120 i n r e error_bytes error_long h o a hr
      (s ∙ ap (λ (S : List ℕ). get_or (without_all (locators P) S) 0 0) (sym error_sums)
      ∙ ap (λ (k : ℕ). get_or (without_all (locators P) (sums k 120 e)) 0 0) (sym l)) in
      ap (bit_xor (get_or w i 0)) (v ∙ error_at_lem i ∙ xor_comm (get_or c i 0) (get_or w i 0)) ∙ xor_cancel (get_or w i 0) (get_or c i 0)

  -- and a place where the error is 0 needs none
  right_already : (i : ℕ) → get_or (plus c w) i 0 ≡ 0 → get_or w i 0 ≡ get_or c i 0
  right_already i z = sym (xor_zero_eq (get_or c i 0) (get_or w i 0) (sym (error_at_lem i) ∙ z))

-- ---- the error, by a divisor that is not 0

over_times : (x d : ℕ) → x < 256 → d < 256 → (d ≡ 0 → ⊥) → times (over x d) d ≡ x
unfolding over
over_times x d hx hd nd =
    times_assoc x (inverse_of d) d hx (inverse_lt d) hd ∙ ap (times x) (inverse_times d (pos_or_zero d nd) hd) ∙ times_one x hx

pub over_lt : (x d : ℕ) → over x d < 256
unfolding over
over_lt x d = times_lt x (inverse_of d) (inverse_lt d)

place_power : (n : ℕ) → raised (locator n) 120 ≡ power (11 * 120 * n)
place_power n = let e : 11 * n * 120 ≡ 11 * 120 * n = omega arith in raised_power (11 * n) 120 ∙ ap power e

without_bytes : (a : ℕ) (S : List ℕ) → Bytes S → Bytes (without a S)
unfolding without
without_bytes a [] h = tt
without_bytes a (s ∷ []) h = tt
without_bytes a (s ∷ t ∷ S) h = (xor_lt 8 t (times a s) h.1.0 (times_lt a s h.0), without_bytes a (t ∷ S) h.1)

without_all_bytes : (Y S : List ℕ) → Bytes S → Bytes (without_all Y S)
unfolding without_all
without_all_bytes [] S h = h
without_all_bytes (y ∷ Y) S h = without_all_bytes Y (without y S) (without_bytes y S h)

without_all_head_lt : (P S : List ℕ) → Bytes S → get_or (without_all P S) 0 0 < 256
without_all_head_lt P S h = byte_at_lem (without_all P S) (without_all_bytes P S h) 0

module _ (w c : List ℕ) (long : length w ≡ 255) (hw : Bytes w) (near : NearWord w c) where
  -- the places A hold what c has, and the others what w has
  abbrev Agree : List ℕ → List ℕ → Type 0
  Agree A v = (i n : ℕ) → i + suc n ≡ 255 → (Member n A → get_or v i 0 ≡ get_or c i 0) × ((Member n A → ⊥) → get_or v i 0 ≡ get_or w i 0)

  agree_all : (A v : List ℕ) → length v ≡ 255 → Only A (plus c w) → Agree A v → v ≡ c
  agree_all A v lv o g =
      ext_get_or 0 v c (lv ∙ sym (codeword_length c (near_code w c long near)))
      (λ i h.
      let n = 254 - i in
      let e : i + suc n ≡ 255 = omega (arith, h, lv) in
      ⊎_elim (λ m. (g i n e).0 m)
      (λ f. (g i n e).1 f ∙ right_already w c long hw near i (⊎_elim (λ z. z) (λ m. absurd (f m)) (o i n (e ∙ sym (error_long w c long hw near)))))
      (member_or n A))

  agree_more : (A v : List ℕ) (n y : ℕ) → n < 255 → length v ≡ 255 → (Member n A → ⊥) → y ≡ get_or c (254 - n) 0 → Agree A v
      → Agree (A ++ n ∷ []) (set v (254 - n) y)
  agree_more A v n y hn lv f e g i m h =
      ⊎_elim
      (λ (q : m ≡ n).
      let p : i ≡ 254 - n = omega (arith, h, q) in (
        λ _. ap (λ (j : ℕ). get_or (set v (254 - n) y) j 0) p ∙ get_or-set_same v (254 - n) y 0 (omega (arith, lv)) ∙ e
            ∙ ap (λ (j : ℕ). get_or c j 0) (sym p),
        λ k. absurd (k (member_behind m A (n ∷ []) (inl q))),
      ))
      (λ d.
      let o : get_or (set v (254 - n) y) i 0 ≡ get_or v i 0 = get_or-set_other v (254 - n) i y 0 (λ p. d (omega (arith, h, p, hn))) in (
        λ k. o ∙ (g i m h).0 (⊎_elim (λ a. a) (λ t. ⊎_elim (λ q. absurd (d q)) (λ z. absurd z) t) (member_split m A (n ∷ []) k)),
        λ k. o ∙ (g i m h).1 (λ a. k (member_front m A (n ∷ []) a)),
      ))
      (same_or m n)

  -- one place is repaired
  fix_one : (A B v : List ℕ) (n : ℕ) → length (A ++ n ∷ B) ≤ 16 → Falling 255 (A ++ n ∷ B) → Only (A ++ n ∷ B) (plus c w)
      → length v ≡ 255 → Agree A v
      → bit_xor (get_or v (254 - n) 0) (error_at (sums_of w) (locator n) (locators (A ++ B))) ≡ get_or c (254 - n) 0
  unfolding error_at
  fix_one A B v n l f o lv g =
      let i = 254 - n in
      let P = A ++ B in
      let hn : n < 255 = falling_in 255 n A B f in
      let h : i + suc n ≡ 255 = omega (arith, hn) in
      let a = falling_apart 255 n A B (le_refl 255) f in
      let Y = locators P in
      let x = get_or (without_all Y (sums_of w)) 0 0 in
      let d = times (factor (locator n) Y) (power (11 * 120 * n)) in
      let hx : x < 256 = without_all_head_lt Y (sums_of w) (sums_bytes 16 120 w) in
      let hd : d < 256 = times_lt (factor (locator n) Y) (power (11 * 120 * n)) (power_lt (11 * 120 * n)) in
      let s : times (over x d) d ≡ x = over_times x d hx hd (divisor_not_zero 120 n P hn a) in
      ap₂ (λ (y p : ℕ). bit_xor y (over x (times (factor (locator n) Y) p))) ((g i n h).1 (apart_not n A B a)) (place_power n)
      ∙ right_error w c long hw near P (15 - length P) i n (over x d) (omega (arith, l, length_other n A B)) h
      (λ k m e. ⊎_elim (λ z. inl z) (λ r. inr (move_last m n A B r)) (o k m e)) a (over_lt x d) s

  fix_all_lem : (A B v : List ℕ) → length (A ++ B) ≤ 16 → Falling 255 (A ++ B) → Only (A ++ B) (plus c w) → length v ≡ 255 → Agree A v
      → fix_all (sums_of w) A B v ≡ c
  unfolding fix_all
  fix_all_lem A [] v l f o lv g = agree_all A v lv (subst (λ (P : List ℕ). Only P (plus c w)) (append-nil A) o) g
  fix_all_lem A (n ∷ B) v l f o lv g =
      let q : A ++ n ∷ B ≡ (A ++ n ∷ []) ++ B = sym (append_assoc A (n ∷ []) B) in
      let y = bit_xor (get_or v (254 - n) 0) (error_at (sums_of w) (locator n) (locators (A ++ B))) in
      let hn : n < 255 = falling_in 255 n A B f in
      fix_all_lem (A ++ n ∷ []) B (set v (254 - n) y)
      (subst (λ (P : List ℕ). length P ≤ 16) q l) (subst (Falling 255) q f) (subst (λ (P : List ℕ). Only P (plus c w)) q o)
      (length-set v (254 - n) y ∙ lv)
      (agree_more A v n y hn lv (apart_not n A B (falling_apart 255 n A B (le_refl 255) f)) (fix_one A B v n l f o lv g) g)

  pub search_finds : search_for w ≡ c
  unfolding search_for
  search_finds =
      let S = sums_of w in
      let hS = sums_bytes 16 120 w in
      let L = error_locator S in
      let k = locator_kills S hS in
      let t = locator_top S hS in
      fix_all_lem [] (places 255 L) w
      (omega (arith, places_few t.0 L k.0 t.1, top_below t.0 L t.1, locator_long S hS))
      (places_falling 255 L) (wrong_places w c long hw near L k.0 (le_of_eq (locator_long S hS)) k.1) long
      (λ i n h. ((λ m. absurd m), (λ _. refl)))
