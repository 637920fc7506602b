-- No row of the search is 0: the place of the last coefficient that is not 0 rises from row to row (`cut_all_rising`).
use mathlib.Core.Path.{◌≡◌, refl, sym, ap, ap₂, ◌∙◌, subst}
use mathlib.Core.Logic.{⊎_elim}
use mathlib.Core.List.{List, [], ◌∷◌, tail}
use Prim.Native.Nat.{ℕ, zero, suc, ◌≤◌, ◌<◌}
use native.Mathlib.Nat.{not-suc-le-zero, le_of_suc-le-suc, le_trans}
use native.Mathlib.Omega.{arith}
use lib.Bits.{bit_xor, xor_zero_r}
use Rattle.basics.specs.Lists.{Bytes}
use Rattle.field.specs.Field.{times}
use Rattle.field.proofs.Laws.{times_zero}
use Rattle.division.specs.Division.{plus, scale}
use Rattle.reed_solomon.proofs.Distance.{zero_of}
use Rattle.reed_solomon.proofs.Places.{AllZero}
use Rattle.nearest.specs.Search.{carry, cut, cut_all, dot, keep, mix, pass}
use Rattle.nearest.proofs.PlaceLists.{same_or}
use Rattle.nearest.proofs.Rows.{Each, cut_each, dot_lt, mix_bytes, tail_bytes}

-- the last coefficient that is not 0 stands at x^k
abbrev pub Top : ℕ → List ℕ → Type 0
Top k [] = ⊥
Top zero (l ∷ L) = (l ≡ 0 → ⊥) × AllZero L
Top (suc k) (l ∷ L) = Top k L

-- the places of these rise from row to row, from m on
abbrev pub Rising : ℕ → List (List ℕ) → Type 0
Rising m [] = Unit {0}
Rising m (b ∷ bs) = (k : ℕ) × (m ≤ k) × Top k b × Rising (suc k) bs

-- only zeros from place m on
abbrev Low : ℕ → List ℕ → Type 0
Low zero C = AllZero C
Low (suc m) [] = Unit {0}
Low (suc m) (c ∷ C) = Low m C

zero_scale : (y : ℕ) (C : List ℕ) → AllZero C → AllZero (scale times y C)
unfolding scale
zero_scale y [] h = tt
zero_scale y (c ∷ C) h = (ap (times y) h.0 ∙ times_zero y, zero_scale y C h.1)

zero_plus : (B C : List ℕ) → AllZero B → AllZero C → AllZero (plus B C)
unfolding plus
zero_plus [] C hB hC = hC
zero_plus (b ∷ B) [] hB hC = hB
zero_plus (b ∷ B) (c ∷ C) hB hC = (ap₂ bit_xor hB.0 hC.0, zero_plus B C hB.1 hC.1)

low_zero : (m : ℕ) (C : List ℕ) → AllZero C → Low m C
low_zero zero C h = h
low_zero (suc m) [] h = tt
low_zero (suc m) (c ∷ C) h = low_zero m C h.1

low_more : (m k : ℕ) (C : List ℕ) → m ≤ k → Low m C → Low k C
low_more zero k C le h = low_zero k C h
low_more (suc m) zero C le h = absurd (not-suc-le-zero le)
low_more (suc m) (suc k) [] le h = tt
low_more (suc m) (suc k) (c ∷ C) le h = low_more m k C (le_of_suc-le-suc le) h

low_scale : (m y : ℕ) (C : List ℕ) → Low m C → Low m (scale times y C)
unfolding scale
low_scale zero y C h = zero_scale y C h
low_scale (suc m) y [] h = tt
low_scale (suc m) y (c ∷ C) h = low_scale m y C h

top_low : (k : ℕ) (C : List ℕ) → Top k C → Low (suc k) C
top_low k [] h = tt
top_low zero (c ∷ C) h = h.1
top_low (suc k) (c ∷ C) h = top_low k C h

top_scale : (k x : ℕ) (B : List ℕ) → x < 256 → (x ≡ 0 → ⊥) → Bytes B → Top k B → Top k (scale times x B)
unfolding scale
top_scale k x [] hx nx hB h = h
top_scale zero x (b ∷ B) hx nx hB h = (λ e. nx (zero_of x b hx hB.0 e h.0), zero_scale x B h.1)
top_scale (suc k) x (b ∷ B) hx nx hB h = top_scale k x B hx nx hB.1 h

top_plus : (k : ℕ) (B C : List ℕ) → Top k B → Low k C → Top k (plus B C)
unfolding plus
top_plus k [] C h l = absurd h
top_plus k (b ∷ B) [] h l = h
top_plus zero (b ∷ B) (c ∷ C) h l = (λ e. h.0 (sym (xor_zero_r b) ∙ ap (bit_xor b) (sym l.0) ∙ e), zero_plus B C h.1 l.1)
top_plus (suc k) (b ∷ B) (c ∷ C) h l = top_plus k B C h l

mix_top : (k x y : ℕ) (b c : List ℕ) → x < 256 → (x ≡ 0 → ⊥) → Bytes b → Top k b → Low k c → Top k (mix x b y c)
unfolding mix
mix_top k x y b c hx nx hb h l = top_plus k (scale times x b) (scale times y c) (top_scale k x b hx nx hb h) (low_scale k y c l)

-- a carried row that the sums do not kill is mixed into the next, and is carried on
pub keep_mix : (x y : ℕ) (c b : List ℕ) → (x ≡ 0 → ⊥) → keep x y c b ≡ mix x b y c
unfolding keep
keep_mix zero y c b n = absurd (n refl)
keep_mix (suc x) y c b n = refl

pub carry_same : (x : ℕ) (c b : List ℕ) → (x ≡ 0 → ⊥) → carry x c b ≡ c
unfolding carry
carry_same zero c b n = absurd (n refl)
carry_same (suc x) c b n = refl

rising_less : (m k : ℕ) (B : List (List ℕ)) → m ≤ k → Rising k B → Rising m B
rising_less m k [] le r = tt
rising_less m k (b ∷ bs) le r = (r.0, le_trans le r.1, r.2, r.3)

-- from the first carried row that S does not kill, all rows are mixed with it
mixed_rising : (S c : List ℕ) (bs : List (List ℕ)) (m : ℕ) → Bytes S → Each Bytes bs → (dot c S ≡ 0 → ⊥) → Low m c → Rising m bs
    → Rising m (pass S c bs)
unfolding pass
mixed_rising S c [] m hS hs n l r = tt
mixed_rising S c (b ∷ bs) m hS hs n l r =
    let k = r.0 in
    let x = dot c S in (
      k,
      r.1,
      subst (Top k) (sym (keep_mix x (dot b S) c b n)) (mix_top k x (dot b S) b c (dot_lt c S hS) n hs.0 r.2 (low_more m k c r.1 l)),
      subst (λ (d : List ℕ). Rising (suc k) (pass S d bs)) (sym (carry_same x c b n))
          (mixed_rising S c bs (suc k) hS hs.1 n (low_more m (suc k) c (omega (arith, r.1)) l) r.3),
    )

pass_kept : (S c b : List ℕ) (bs : List (List ℕ)) → dot c S ≡ 0 → pass S c (b ∷ bs) ≡ c ∷ pass S b bs
unfolding pass keep carry
pass_kept S c b bs e = ap (λ (x : ℕ). keep x (dot b S) c b ∷ pass S (carry x c b) bs) e

pass_rising : (S c : List ℕ) (bs : List (List ℕ)) (m k : ℕ) → Bytes S → Each Bytes bs → m ≤ k → Top k c → Rising (suc k) bs
    → Rising m (pass S c bs)
unfolding pass
pass_rising S c [] m k hS hs le t r = tt
pass_rising S c (b ∷ bs) m k hS hs le t r =
    ⊎_elim
    (λ e. subst (Rising m) (sym (pass_kept S c b bs e)) (k, le, t, pass_rising S b bs (suc k) r.0 hS hs.1 r.1 r.2 r.3))
    (λ n. rising_less m (suc k) (pass S c (b ∷ bs)) (omega arith) (mixed_rising S c (b ∷ bs) (suc k) hS hs n (top_low k c t) r))
    (same_or (dot c S) 0)

cut_rising : (S : List ℕ) (B : List (List ℕ)) (m : ℕ) → Bytes S → Each Bytes B → Rising m B → Rising m (cut S B)
unfolding cut
cut_rising S [] m hS h r = tt
cut_rising S (c ∷ bs) m hS h r = pass_rising S c bs m r.0 hS h.1 r.1 r.2 r.3

pub cut_all_rising : (n : ℕ) (S : List ℕ) (B : List (List ℕ)) (m : ℕ) → Bytes S → Each Bytes B → Rising m B → Rising m (cut_all n S B)
unfolding cut_all
cut_all_rising zero S B m hS h r = r
cut_all_rising (suc n) S B m hS h r =
    cut_all_rising n (tail S) (cut S B) m (tail_bytes Bytes mix_bytes S hS) (cut_each Bytes mix_bytes S B hS h) (cut_rising S B m hS h r)
