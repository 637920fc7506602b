-- The byte d4, both ways: ACK, ACK-valid and the type under four bits of any value; a check sum in two bytes.
use mathlib.Core.Path.{◌≡◌, refl, sym, ap, ap₂, ◌∙◌}
use mathlib.Core.Bool.{Bool, true, false}
use mathlib.Core.List.{List, [], ◌∷◌}
use Prim.Native.Nat.{ℕ, ◌+◌, ◌*◌, ◌/◌, ◌%◌, ◌<◌}
use native.Mathlib.Omega.{arith}
use borrow.Author.Tests.{eqb-true, eq-eqb}
use lib.Dec.{eqb, eqb→eq}
use lib.ListN.{length, get_or, drop}
use Rattle.basics.specs.Lists.{same, entries}
use Rattle.basics.specs.Numbers.{high_first}
use Rattle.basics.proofs.Tests.{below, is_same}
use Rattle.basics.proofs.Lists.{entries_rest}
use Rattle.header.specs.Header.{flag_bit, kind_number, kind_of, flags_byte}
use Rattle.header.proofs.Bytes.{bit_le, kind_le}
use Rattle.header.specs.declared.FrameKind.{FrameKind}
use Rattle.header.specs.declared.FrameKind.TheVariants.{Idle, Data, Type2, Type3}

-- ---- from the flags and the type

pub bit_back : (flag : Bool) → eqb (flag_bit flag) 1 ≡ flag
bit_back true = refl
bit_back false = refl

pub kind_back : (kind : FrameKind) → kind_of (kind_number kind) ≡ kind
unfolding kind_of
kind_back Idle = refl
kind_back Data = refl
kind_back Type2 = refl
kind_back Type3 = refl

module _ (reserved : ℕ) (ack valid : Bool) (kind : FrameKind) where
  abbrev d4 : ℕ
  d4 = flags_byte reserved ack valid kind

  pub d4_reserved : d4 / 16 ≡ reserved % 16
  d4_reserved = omega (arith, bit_le ack, bit_le valid, kind_le kind)

  pub d4_ack : eqb (d4 / 8 % 2) 1 ≡ ack
  d4_ack = let e : d4 / 8 % 2 ≡ flag_bit ack = omega (arith, bit_le ack, bit_le valid, kind_le kind) in rw e (bit_back ack)

  pub d4_valid : eqb (d4 / 4 % 2) 1 ≡ valid
  d4_valid = let e : d4 / 4 % 2 ≡ flag_bit valid = omega (arith, bit_le ack, bit_le valid, kind_le kind) in rw e (bit_back valid)

  pub d4_kind : kind_of (d4 % 4) ≡ kind
  d4_kind = let e : d4 % 4 ≡ kind_number kind = omega (arith, bit_le ack, bit_le valid, kind_le kind) in rw e (kind_back kind)

-- ---- from the byte, which is computed at every one

pub d4_again : (n : ℕ) → n < 256 → flags_byte (n / 16) (eqb (n / 8 % 2) 1) (eqb (n / 4 % 2) 1) (kind_of (n % 4)) ≡ n
unfolding kind_of
d4_again n h =
    let again : ℕ → ℕ = λ k. flags_byte (k / 16) (eqb (k / 8 % 2) 1) (eqb (k / 4 % 2) 1) (kind_of (k % 4)) in
    eqb→eq (again n) n (below 256 (λ k. eqb (again k) k) tt n h)

-- ---- a check sum and the two bytes d14 and d15, high byte first

pub sum_same : (sum : ℕ) (d : List ℕ) → sum < 65536 → get_or d 14 0 < 256 → get_or d 15 0 < 256 → length d ≡ 16
    → eqb sum (get_or d 15 0 + 256 * get_or d 14 0) ≡ same (drop 14 d) (high_first 2 sum)
unfolding entries
sum_same sum d few high low size =
    let value : ℕ = get_or d 15 0 + 256 * get_or d 14 0 in
    let two : drop 14 d ≡ get_or d 14 0 ∷ get_or d 15 0 ∷ [] = sym (entries_rest d 14 2 size) in
    is_same (eqb sum value) (drop 14 d) (high_first 2 sum)
    (λ t.
    let e = eqb-true sum value t in
    let above : get_or d 14 0 ≡ sum / 256 % 256 = omega arith in
    let below : get_or d 15 0 ≡ sum % 256 = omega arith in
    two ∙ ap₂ (λ (a b : ℕ). a ∷ b ∷ []) above below)
    (λ q.
    let above : get_or d 14 0 ≡ sum / 256 % 256 = ap (λ (l : List ℕ). get_or l 0 0) (sym two ∙ q) in
    let below : get_or d 15 0 ≡ sum % 256 = ap (λ (l : List ℕ). get_or l 1 0) (sym two ∙ q) in
    eq-eqb sum value (omega arith))
