-- Eight bytes that are added to later ones may be left out at the front: by `crc_append` and the powers that the polynomial divides (`folded`).
use mathlib.Core.Path.{◌≡◌, refl, sym, ap, ap₂, ◌∙◌}
use mathlib.Core.List.{List, [], ◌∷◌, ◌++◌, append_assoc, append-nil}
use Prim.Native.Nat.{ℕ, zero, suc, ◌+◌, ◌-◌, ◌*◌, ◌/◌, ◌^◌, ◌≤◌, ◌<◌}
use native.Mathlib.Omega.{arith}
use lib.Bits.{bit_xor, xor_comm, xor_zero_r, xor_mod, xor_shr}
use lib.ListN.{length, take, drop, length-append, length-drop, take-append-drop, drop_of_length-le}
use lib.Seq.{length-take-le, drop-append-le, drop-append-add}
use borrow.Rule.Slice.PartMut.{put_mid}
use Rattle.basics.specs.Lists.{Bytes}
use Rattle.basics.specs.Numbers.{low_first, number_at}
use Rattle.basics.proofs.Lists.{cut_rest_lem}
use Rattle.basics.proofs.Numbers.{number_then}
use Rattle.basics.proofs.Xor.{xor_assoc}
use Rattle.lent.specs.Written.{written}
use Rattle.division.specs.Division.{plus}
use Rattle.division.proofs.Register.{plus_length}
use Rattle.crc.specs.Crc.{crc32_polynomial, crc_32}
use Rattle.crc.specs.Register.{raised, number_sum}
use Rattle.crc.proofs.Linear.{crc_plus}
use Rattle.crc.proofs.Append.{raised_add, raised_lt, raised_xor, crc_32_lt, crc_append}
use Rattle.crc.proofs.Powers.{divided, powers}

-- the bytes of a sum of two numbers
low_xor : (n a b : ℕ) → low_first n (bit_xor a b) ≡ plus (low_first n a) (low_first n b)
unfolding plus
low_xor zero a b = refl
low_xor (suc n) a b =
    ap₂ (λ (x : ℕ) (l : List ℕ). x ∷ l) (xor_mod a b 8) (ap (low_first n) (xor_shr a b 8) ∙ low_xor n (a / 256) (b / 256))

-- ---- a number is added

-- t is added to the part s of a message
amid : (f s t g : List ℕ) → length s ≡ length t → crc_32 (f ++ (plus s t ++ g)) ≡ bit_xor (crc_32 (f ++ (s ++ g))) (raised (8 * length g) (crc_32 t))
unfolding crc_32
amid f s t g e =
    let n = 8 * length g in
    let front = raised (8 * length (s ++ g)) (crc_32 f) in
    let before = raised n (crc_32 s) in
    let new = raised n (crc_32 t) in
    let behind = crc_32 g in
    let long : length (plus s t ++ g) ≡ length (s ++ g) =
    length-append (plus s t) g ∙ ap (λ (k : ℕ). k + length g) (plus_length s t (length s) refl (sym e)) ∙ sym (length-append s g) in
    let sums : crc_32 (plus s t ++ g) ≡ bit_xor (crc_32 (s ++ g)) new =
    crc_append (plus s t) g
    ∙ ap (λ (x : ℕ). bit_xor (raised n x) behind) (crc_plus 31 crc32_polynomial refl s t e)
    ∙ ap (λ (x : ℕ). bit_xor x behind) (raised_xor n (crc_32 s) (crc_32 t) (crc_32_lt s) (crc_32_lt t))
    ∙ xor_assoc before new behind ∙ ap (bit_xor before) (xor_comm new behind) ∙ sym (xor_assoc before behind new)
    ∙ ap (λ (x : ℕ). bit_xor x new) (sym (crc_append s g)) in
    crc_append f (plus s t ++ g)
    ∙ ap₂ (λ (k x : ℕ). bit_xor (raised (8 * k) (crc_32 f)) x) long sums
    ∙ sym (xor_assoc front (crc_32 (s ++ g)) new)
    ∙ ap (λ (x : ℕ). bit_xor x new) (sym (crc_append f (s ++ g)))

pub number_added : (l : List ℕ) → Bytes l → (at number : ℕ) → 8 ≤ at → at + 8 ≤ length l
    → crc_32 (drop 8 (written l at (low_first 8 (bit_xor (number_at at 8 l) number)))) ≡ bit_xor (crc_32 (drop 8 l)) (number_sum (length l) at number)
unfolding written
number_added l b at number h room =
    let old = low_first 8 (number_at at 8 l) in
    let new = low_first 8 number in
    let sum = low_first 8 (bit_xor (number_at at 8 l) number) in
    let front = drop 8 (take at l) in
    let back = drop (at + 8) l in
    let long : 8 ≤ length (take at l) = omega (arith, length-take-le at l (omega arith)) in
    let whole : take at l ++ (old ++ back) ≡ l = ap (λ (r : List ℕ). take at l ++ r) (number_then l b at 8 room) ∙ take-append-drop at l in
    ap (λ (m : List ℕ). crc_32 (drop 8 m)) (append_assoc (take at l) sum back)
    ∙ ap crc_32 (drop-append-le 8 (take at l) (sum ++ back) long)
    ∙ ap (λ (s : List ℕ). crc_32 (front ++ (s ++ back))) (low_xor 8 (number_at at 8 l) number)
    ∙ amid front old new back refl
    ∙ ap₂ (λ (m : List ℕ) (k : ℕ). bit_xor (crc_32 m) (raised (8 * k) (crc_32 new)))
    (sym (drop-append-le 8 (take at l) (old ++ back) long) ∙ ap (drop 8) whole) (length-drop (at + 8) l)

-- ---- and left out at the front

-- a sum of numbers, and the same added to x one by one
abbrev sum : List ℕ → ℕ
sum [] = 0
sum (y ∷ ys) = bit_xor y (sum ys)

abbrev added : ℕ → List ℕ → ℕ
added x [] = x
added x (y ∷ ys) = added (bit_xor x y) ys

added_sum : (x : ℕ) (ys : List ℕ) → added x ys ≡ bit_xor x (sum ys)
added_sum x [] = sym (xor_zero_r x)
added_sum x (y ∷ ys) = added_sum (bit_xor x y) ys ∙ xor_assoc x y (sum ys)

-- one more number is added to a message that had n bytes: its length and its check sum go from k and y to m and z
pub one_more : {k m n x y z : ℕ} (at number : ℕ) → (k ≡ n) × (y ≡ x) → m ≡ k → z ≡ bit_xor y (number_sum k at number)
    → (m ≡ n) × (z ≡ bit_xor x (number_sum n at number))
one_more at number s long e = (long ∙ s.0, e ∙ ap₂ (λ (x n : ℕ). bit_xor x (number_sum n at number)) s.1 s.0)

-- a number that stands e bytes before the last place adds what it would there, times x^(8 e)
moved : (n at e number : ℕ) → at + e ≡ 123 → 131 ≤ n → number_sum n at number ≡ raised (8 * e) (number_sum n 123 number)
moved n at e number q h =
    let k : 8 * (n - (at + 8)) ≡ 8 * (n - 131) + 8 * e = omega arith in
    let sum = crc_32 (low_first 8 number) in
    ap (λ (j : ℕ). raised j sum) k ∙ raised_add (8 * (n - 131)) (8 * e) sum

-- what the number at the front adds is the sum of what it adds at the seven places, so those that follow it have one_more the check sum of the whole
pub folded : (l : List ℕ) → Bytes l → 131 ≤ length l → (number : ℕ) → number ≡ number_at 0 8 l
    → let w : ℕ → ℕ = λ at. number_sum (length l) at number in
    added (crc_32 (drop 8 l)) (w 12 ∷ w 31 ∷ w 39 ∷ w 59 ∷ w 77 ∷ w 100 ∷ w 123 ∷ []) ≡ crc_32 l
folded l b h number e =
    let n = length l in
    let w : ℕ → ℕ = λ at. number_sum n at number in
    let y = w 123 in
    let hy : y < 2 ^ 32 = raised_lt (8 * (n - 131)) (crc_32 (low_first 8 number)) (crc_32_lt (low_first 8 number)) in
    let m : (at e : ℕ) → at + e ≡ 123 → w at ≡ raised (8 * e) y = λ at e q. moved n at e number q h in
    let ws : List ℕ = w 12 ∷ w 31 ∷ w 39 ∷ w 59 ∷ w 77 ∷ w 100 ∷ w 123 ∷ [] in
    let sums : sum ws ≡ w 0 =
    ap₂ bit_xor (m 12 111 refl) (ap₂ bit_xor (m 31 92 refl) (ap₂ bit_xor (m 39 84 refl) (ap₂ bit_xor (m 59 64 refl)
    (ap₂ bit_xor (m 77 46 refl) (ap₂ bit_xor (m 100 23 refl) (ap₂ bit_xor (m 123 0 refl) refl))))))
    ∙ sym (divided 123 (111 ∷ 92 ∷ 84 ∷ 64 ∷ 46 ∷ 23 ∷ 0 ∷ []) powers y hy) ∙ sym (m 0 123 refl) in
    added_sum (crc_32 (drop 8 l)) ws ∙ ap (bit_xor (crc_32 (drop 8 l))) sums ∙ xor_comm (crc_32 (drop 8 l)) (w 0)
    ∙ ap₂ (λ (k x : ℕ). bit_xor (raised (8 * k) (crc_32 (low_first 8 x))) (crc_32 (drop 8 l))) (sym (length-drop 8 l)) e
    ∙ sym (crc_append (low_first 8 (number_at 0 8 l)) (drop 8 l))
    ∙ ap crc_32 (number_then l b 0 8 (omega arith))

-- ---- a loop over a message l of n bytes: from index i on it becomes m

pub to_the_end : (l : List ℕ) (n i : ℕ) → length l ≡ n → take (n - i) (drop i l) ≡ drop i l
to_the_end l n i e = ap (λ (k : ℕ). take (k - i) (drop i l)) (sym e) ∙ cut_rest_lem l i

pub fold_turn : (l m : List ℕ) (n i : ℕ) → length l ≡ n → i ≤ n → crc_32 (drop 8 m) ≡ crc_32 (take (n - i) (drop i l))
    → crc_32 (drop (i + 8) (put_mid i (n - i) l m)) ≡ crc_32 (drop i l)
fold_turn l m n i e h same =
    let short : length (drop i l) ≤ n - i = simp length-drop (omega arith) in
    ap (λ (r : List ℕ). crc_32 (drop (i + 8) (take i l ++ (m ++ r)))) (drop_of_length-le (drop i l) {i = n - i} short)
    ∙ ap (λ (r : List ℕ). crc_32 (drop (i + 8) (take i l ++ r))) (append-nil m)
    ∙ ap (λ (k : ℕ). crc_32 (drop (k + 8) (take i l ++ m))) (sym (length-take-le i l (omega arith)))
    ∙ ap crc_32 (drop-append-add (take i l) m 8)
    ∙ same ∙ ap crc_32 (to_the_end l n i e)
