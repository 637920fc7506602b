-- The rows of the search: each list of sums takes one away, and kills all that are left (`cut_all_kills`).
use mathlib.Core.Path.{◌≡◌, refl, sym, ap, ap₂, ◌∙◌}
use mathlib.Core.List.{List, [], ◌∷◌, tail}
use Prim.Native.Nat.{ℕ, zero, suc, ◌<◌}
use lib.Dec.{lit<}
use lib.Bits.{bit_xor, xor_lt, xor_self, xor_zero_r}
use Rattle.basics.specs.Lists.{Bytes}
use Rattle.basics.proofs.Xor.{xor_cross}
use Rattle.field.specs.Field.{times}
use Rattle.field.proofs.Laws.{times_assoc, times_comm, times_xor_left, times_lt, times_xor_right, times_zero}
use Rattle.division.specs.Division.{plus, scale}
use Rattle.reed_solomon.proofs.Roots.{plus_bytes, scale_bytes}
use Rattle.nearest.specs.Search.{carry, cut, cut_all, dot, keep, mix, pass}
use Rattle.nearest.proofs.Polynomial.{Kills}

-- ---- sums of rows

pub dot_lt : (L S : List ℕ) → Bytes S → dot L S < 256
unfolding dot
dot_lt [] S h = lit< tt
dot_lt (l ∷ L) [] h = lit< tt
dot_lt (l ∷ L) (s ∷ S) h = xor_lt 8 (times l s) (dot L S) (times_lt l s h.0) (dot_lt L S h.1)

dot_plus : (a b S : List ℕ) → dot (plus a b) S ≡ bit_xor (dot a S) (dot b S)
unfolding dot plus
dot_plus [] b S = refl
dot_plus (x ∷ a) [] S = sym (xor_zero_r (dot (x ∷ a) S))
dot_plus (x ∷ a) (y ∷ b) [] = refl
dot_plus (x ∷ a) (y ∷ b) (s ∷ S) =
    ap₂ bit_xor (times_xor_left x y s) (dot_plus a b S) ∙ xor_cross (times x s) (times y s) (dot a S) (dot b S)

dot_scale : (x : ℕ) (b S : List ℕ) → x < 256 → Bytes b → Bytes S → dot (scale times x b) S ≡ times x (dot b S)
unfolding dot scale
dot_scale x [] S hx hb hS = sym (times_zero x)
dot_scale x (b ∷ B) [] hx hb hS = sym (times_zero x)
dot_scale x (b ∷ B) (s ∷ S) hx hb hS =
    ap₂ bit_xor (times_assoc x b s hx hb.0 hS.0) (dot_scale x B S hx hb.1 hS.1)
    ∙ sym (times_xor_right x (times b s) (dot B S) (times_lt b s hS.0) (dot_lt B S hS.1))

dot_mix : (x y : ℕ) (b c S : List ℕ) → x < 256 → y < 256 → Bytes b → Bytes c → Bytes S
    → dot (mix x b y c) S ≡ bit_xor (times x (dot b S)) (times y (dot c S))
unfolding mix
dot_mix x y b c S hx hy hb hc hS = dot_plus (scale times x b) (scale times y c) S ∙ ap₂ bit_xor (dot_scale x b S hx hb hS) (dot_scale y c S hy hc hS)

-- ---- what holds of each row

abbrev pub Each : (List ℕ → Type 0) → List (List ℕ) → Type 0
Each Q [] = Unit {0}
Each Q (b ∷ bs) = Q b × Each Q bs

abbrev pub Closed : (List ℕ → Type 0) → Type 0
Closed Q = (x y : ℕ) (b c : List ℕ) → x < 256 → y < 256 → Q b → Q c → Q (mix x b y c)

module _ (Q : List ℕ → Type 0) (closed : Closed Q) where
  keep_each : (x y : ℕ) (c b : List ℕ) → x < 256 → y < 256 → Q c → Q b → Q (keep x y c b)
  unfolding keep
  keep_each zero y c b hx hy qc qb = qc
  keep_each (suc x) y c b hx hy qc qb = closed (suc x) y b c hx hy qb qc

  carry_each : (x : ℕ) (c b : List ℕ) → Q c → Q b → Q (carry x c b)
  unfolding carry
  carry_each zero c b qc qb = qb
  carry_each (suc x) c b qc qb = qc

  pass_each : (S c : List ℕ) (bs : List (List ℕ)) → Bytes S → Q c → Each Q bs → Each Q (pass S c bs)
  unfolding pass
  pass_each S c [] hS qc qs = tt
  pass_each S c (b ∷ bs) hS qc qs = (
    keep_each (dot c S) (dot b S) c b (dot_lt c S hS) (dot_lt b S hS) qc qs.0,
    pass_each S (carry (dot c S) c b) bs hS (carry_each (dot c S) c b qc qs.0) qs.1,
  )

  pub cut_each : (S : List ℕ) (B : List (List ℕ)) → Bytes S → Each Q B → Each Q (cut S B)
  unfolding cut
  cut_each S [] hS q = tt
  cut_each S (c ∷ bs) hS q = pass_each S c bs hS q.0 q.1

  pub tail_bytes : (S : List ℕ) → Bytes S → Bytes (tail S)
  tail_bytes [] h = tt
  tail_bytes (s ∷ S) h = h.1

  pub cut_all_each : (n : ℕ) (S : List ℕ) (B : List (List ℕ)) → Bytes S → Each Q B → Each Q (cut_all n S B)
  unfolding cut_all
  cut_all_each zero S B hS q = q
  cut_all_each (suc n) S B hS q = cut_all_each n (tail S) (cut S B) (tail_bytes S hS) (cut_each S B hS q)

-- rows of bytes that S kills
abbrev Dead : List ℕ → List ℕ → Type 0
Dead S r = Bytes r × (dot r S ≡ 0)

pub mix_bytes : Closed Bytes
unfolding mix
mix_bytes x y b c hx hy hb hc = plus_bytes (scale times x b) (scale times y c) (scale_bytes x b hb) (scale_bytes y c hc)

mix_dead : (S : List ℕ) → Bytes S → Closed (Dead S)
mix_dead S hS x y b c hx hy hb hc = (
  mix_bytes x y b c hx hy hb.0 hc.0,
  dot_mix x y b c S hx hy hb.0 hc.0 hS ∙ ap₂ (λ (u v : ℕ). bit_xor (times x u) (times y v)) hb.1 hc.1
      ∙ ap₂ bit_xor (times_zero x) (times_zero y),
)

keep_dead : (x y : ℕ) (c b S : List ℕ) → x < 256 → y < 256 → Bytes c → Bytes b → Bytes S → dot c S ≡ x → dot b S ≡ y
    → Dead S (keep x y c b)
unfolding keep
keep_dead zero y c b S hx hy hc hb hS ex ey = (hc, ex)
keep_dead (suc x) y c b S hx hy hc hb hS ex ey = (
  mix_bytes (suc x) y b c hx hy hb hc,
  dot_mix (suc x) y b c S hx hy hb hc hS ∙ ap₂ (λ (u v : ℕ). bit_xor (times (suc x) u) (times y v)) ey ex
      ∙ ap (λ (u : ℕ). bit_xor u (times y (suc x))) (times_comm (suc x) y hx hy) ∙ xor_self (times y (suc x)),
)

pass_dead : (S c : List ℕ) (bs : List (List ℕ)) → Bytes S → Bytes c → Each Bytes bs → Each (Dead S) (pass S c bs)
unfolding pass
pass_dead S c [] hS hc hs = tt
pass_dead S c (b ∷ bs) hS hc hs = (
  keep_dead (dot c S) (dot b S) c b S (dot_lt c S hS) (dot_lt b S hS) hc hs.0 hS refl refl,
  pass_dead S (carry (dot c S) c b) bs hS (carry_each Bytes mix_bytes (dot c S) c b hc hs.0) hs.1,
)

cut_dead : (S : List ℕ) (B : List (List ℕ)) → Bytes S → Each Bytes B → Each (Dead S) (cut S B)
unfolding cut
cut_dead S [] hS h = tt
cut_dead S (c ∷ bs) hS h = pass_dead S c bs hS h.0 h.1

each_also : (P Q R : List ℕ → Type 0) → ((r : List ℕ) → P r → Q r → R r) → (B : List (List ℕ)) → Each P B → Each Q B → Each R B
each_also P Q R f [] p q = tt
each_also P Q R f (b ∷ bs) p q = (f b p.0 q.0, each_also P Q R f bs p.1 q.1)

-- every row that is left kills all
pub cut_all_kills : (n : ℕ) (S : List ℕ) (B : List (List ℕ)) → Bytes S → Each Bytes B → Each (λ r. Bytes r × Kills n r S) (cut_all n S B)
unfolding cut_all
cut_all_kills zero S B hS h = each_also Bytes Bytes (λ r. Bytes r × Kills zero r S) (λ r p q. (p, tt)) B h h
cut_all_kills (suc n) S B hS h =
    let C = cut S B in
    let hT = tail_bytes Bytes mix_bytes S hS in
    each_also (Dead S) (λ r. Bytes r × Kills n r (tail S)) (λ r. Bytes r × Kills (suc n) r S) (λ r p q. (p.0, (p.1, q.1)))
    (cut_all n (tail S) C)
    (cut_all_each (Dead S) (mix_dead S hS) n (tail S) C hT (cut_dead S B hS h))
    (cut_all_kills n (tail S) C hT (cut_each Bytes mix_bytes S B hS h))
