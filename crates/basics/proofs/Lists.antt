-- Laws of lists of zeros, of bytes and of entries; and of parts of a list, as code cuts them.
use mathlib.Core.Path.{◌≡◌, refl, sym, ap, ◌∙◌, subst}
use mathlib.Core.List.{List, [], ◌∷◌, ◌++◌, append-nil}
use Prim.Native.Nat.{ℕ, zero, suc, ◌+◌, ◌-◌, ◌≤◌, ◌<◌}
use native.Mathlib.Nat.{not-suc-le-zero, le_of_suc-le-suc, add-zero, zero-add, add-suc, suc-add}
use native.Mathlib.Omega.{arith}
use lib.ListN.{length, get_or, take, drop, drop_of_length-le, length-drop, length-replicate, take-append-drop}
use lib.Seq.{take_all, take-add, drop_at, drop-cons, length-take-le, ext_get_or, get_or-take}
use Rattle.basics.specs.Lists.{zeros, Bytes, entries}

pub zeros_length : (n : ℕ) → length (zeros n) ≡ n
zeros_length n = length-replicate n 0

pub zeros_snoc : (n : ℕ) → zeros n ++ 0 ∷ [] ≡ zeros (suc n)
zeros_snoc zero = refl
zeros_snoc (suc n) = ap (λ (l : List ℕ). 0 ∷ l) (zeros_snoc n)

pub zeros_bytes : (n : ℕ) → Bytes (zeros n)
zeros_bytes zero = tt
zeros_bytes (suc n) = (omega arith, zeros_bytes n)

pub zeros_at : (n k : ℕ) → get_or (zeros n) k 0 ≡ 0
zeros_at zero k = refl
zeros_at (suc n) zero = refl
zeros_at (suc n) (suc k) = zeros_at n k

-- a zero behind a list is not seen
pub zero_behind : (l : List ℕ) (k : ℕ) → get_or (l ++ 0 ∷ []) k 0 ≡ get_or l k 0
zero_behind [] zero = refl
zero_behind [] (suc k) = refl
zero_behind (x ∷ l) zero = refl
zero_behind (x ∷ l) (suc k) = zero_behind l k

pub bytes_front : (p q : List ℕ) → Bytes (p ++ q) → Bytes p
bytes_front [] q h = tt
bytes_front (x ∷ p) q h = (h.0, bytes_front p q h.1)

pub bytes_behind : (p q : List ℕ) → Bytes (p ++ q) → Bytes q
bytes_behind [] q h = h
bytes_behind (x ∷ p) q h = bytes_behind p q h.1

pub bytes_append : (p q : List ℕ) → Bytes p → Bytes q → Bytes (p ++ q)
bytes_append [] q g h = h
bytes_append (x ∷ p) q g h = (g.0, bytes_append p q g.1 h)

-- numbers below 256, place by place, both ways
pub bytes_each : (l : List ℕ) → ((i : ℕ) → get_or l i 0 < 256) → Bytes l
bytes_each [] h = tt
bytes_each (x ∷ l) h = (h 0, bytes_each l (λ i. h (suc i)))

pub byte_at_lem : (l : List ℕ) → Bytes l → (i : ℕ) → get_or l i 0 < 256
byte_at_lem [] h i = omega arith
byte_at_lem (b ∷ l) h zero = h.0
byte_at_lem (b ∷ l) h (suc i) = byte_at_lem l h.1 i

pub bytes_drop : (n : ℕ) (l : List ℕ) → Bytes l → Bytes (drop n l)
bytes_drop n l h = bytes_behind (take n l) (drop n l) (subst Bytes (sym (take-append-drop n l)) h)

pub bytes_take : (n : ℕ) (l : List ℕ) → Bytes l → Bytes (take n l)
bytes_take n l h = bytes_front (take n l) (drop n l) (subst Bytes (sym (take-append-drop n l)) h)

pub bytes_entries : (f : ℕ → ℕ) (i n : ℕ) → ((k : ℕ) → k < i + n → f k < 256) → Bytes (entries f i n)
unfolding entries
bytes_entries f i zero h = tt
bytes_entries f i (suc n) h = (h i (omega arith), bytes_entries f (suc i) n (λ k l. h k (omega arith)))

pub entries_length : (f : ℕ → ℕ) (i n : ℕ) → length (entries f i n) ≡ n
unfolding entries
entries_length f i zero = refl
entries_length f i (suc n) = ap suc (entries_length f (suc i) n)

pub entries_at : (f : ℕ → ℕ) (i n k : ℕ) → k < n → get_or (entries f i n) k 0 ≡ f (i + k)
unfolding entries
entries_at f i zero k h = absurd (not-suc-le-zero h)
entries_at f i (suc n) zero h = ap f (sym (add-zero i))
entries_at f i (suc n) (suc k) h = entries_at f (suc i) n k (le_of_suc-le-suc h) ∙ ap f (suc-add i k ∙ sym (add-suc i k))

-- ---- a list, entry by entry

abbrev pub byte : List ℕ → ℕ → ℕ
byte l i = get_or l i 0

pub entries_front : (l : List ℕ) (n : ℕ) → n ≤ length l → entries (byte l) 0 n ≡ take n l
entries_front l n h =
    ext_get_or 0 (entries (byte l) 0 n) (take n l) (entries_length (byte l) 0 n ∙ sym (length-take-le n l h))
    (λ k hk.
    let k_lt = rw (entries_length (byte l) 0 n) at hk in
    entries_at (byte l) 0 n k k_lt ∙ ap (byte l) (zero-add k) ∙ sym (get_or-take n l k 0 k_lt))

-- those from k on, and what stands behind them
pub entries_then : (l : List ℕ) (k n : ℕ) → k + n ≤ length l → entries (byte l) k n ++ drop (k + n) l ≡ drop k l
unfolding entries
entries_then l k zero h = ap (λ (i : ℕ). drop i l) (add-zero k)
entries_then l k (suc n) h =
    ap (λ (i : ℕ). byte l k ∷ (entries (byte l) (suc k) n ++ drop i l)) (add-suc k n ∙ sym (suc-add k n))
    ∙ ap (λ (t : List ℕ). byte l k ∷ t) (entries_then l (suc k) n (omega arith)) ∙ sym (drop-cons l k 0 (omega arith))

pub entries_rest : (l : List ℕ) (k n : ℕ) → length l ≡ k + n → entries (byte l) k n ≡ drop k l
entries_rest l k n e =
    let h : length l ≤ k + n = omega arith in
    sym (ap (λ (t : List ℕ). entries (byte l) k n ++ t) (drop_of_length-le l h) ∙ append-nil (entries (byte l) k n)) ∙ entries_then l k n (omega arith)

-- ---- parts: `&l[k..]`, `&l[from..from + n]`, and a part of a front

pub cut_rest_lem : (l : List ℕ) (k : ℕ) → take (length l - k) (drop k l) ≡ drop k l
cut_rest_lem l k = take_all (length l - k) (drop k l) (simp length-drop (omega arith))

pub cut_part : (l : List ℕ) (from n : ℕ) → take (from + n - from) (drop from l) ≡ take n (drop from l)
cut_part l from n = let e : from + n - from ≡ n = omega arith in ap (λ (m : ℕ). take m (drop from l)) e

pub drop_take : (k n : ℕ) (l : List ℕ) → k ≤ n → k ≤ length l → drop k (take n l) ≡ take (n - k) (drop k l)
drop_take k n l h f =
    let e : k + (n - k) ≡ n = omega arith in
    ap (λ (m : ℕ). drop k (take m l)) (sym e) ∙ ap (drop k) (take-add k (n - k) l) ∙ drop_at (take k l) (take (n - k) (drop k l)) k (length-take-le k l f)
