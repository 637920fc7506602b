-- The messages of the fast channel, both ways: a message that fits is read back from its opcode and payload, and an opcode and a payload that go by the rule
-- are those of the message read, which fits.
use mathlib.Core.Path.{◌≡◌, refl, sym, subst}
use mathlib.Core.Bool.{Bool, true, false, cond, ◌&&◌, and-eq-true_iff}
use Prim.Native.Nat.{ℕ, suc, ◌+◌, ◌*◌, ◌/◌, ◌%◌, ◌≤◌, ◌<◌}
use native.Mathlib.Omega.{arith}
use borrow.Author.Tests.{ltb-true, leb-true, eqb-true, eqb-false, lt-ltb, le-leb, ne_eqb, lt-leb}
use lib.Dec.{eqb, ltb, leb}
use Rattle.basics.proofs.Xor.{bit_cases}
use Rattle.basics.specs.Numbers.{fits_bits}
use Rattle.fast_channel.specs.FastChannel.{lock_number, with_lock, lock_of, opcode_of, payload_of, message_fits, message_of, payload_rule}
use Rattle.fast_channel.specs.declared.Lock.{Lock}
use Rattle.fast_channel.specs.declared.Lock.TheVariants.{NotLocked, Locked}
use Rattle.fast_channel.specs.declared.FastChannel.{FastChannel}
use Rattle.fast_channel.specs.declared.FastChannel.TheVariants.{CrcErrors, ReceivedPower, PowerStatistics, SyncLosses, PowerRange}
use Rattle.fast_channel.specs.declared.FastChannel.TheVariants.{Version, CorrectedFrames, Reserved, Absent}

-- ---- from the message

pub lock_back : (lock : Lock) → lock_of (lock_number lock) ≡ lock
lock_back NotLocked = refl
lock_back Locked = refl

lock_le : (lock : Lock) → lock_number lock ≤ 1
lock_le NotLocked = omega arith
lock_le Locked = omega arith

-- a number of 14 bits over two bits of lock
module _ (n : ℕ) (lock : Lock) where
  over : fits_bits 14 n ≡ true → with_lock n lock / 4 ≡ n
  over e = omega (arith, lock_le lock, ltb-true n 16384 e)

  under : with_lock n lock % 4 ≡ lock_number lock
  under = omega (arith, lock_le lock)

  locks : ltb (with_lock n lock % 4) 2 ≡ true
  locks = lt-ltb (with_lock n lock % 4) 2 (omega (arith, lock_le lock))

-- two bytes in one number
module _ (a b : ℕ) (e : (fits_bits 8 a && fits_bits 8 b) ≡ true) where
  second_lt : b < 256
  second_lt = ltb-true b 256 ((and-eq-true_iff (fits_bits 8 a) (fits_bits 8 b)).0 e).1

  first : (256 * a + b) / 256 ≡ a
  first = omega (arith, second_lt)

  second : (256 * a + b) % 256 ≡ b
  second = omega (arith, second_lt)

  pair_lt : 256 * a + b < 65536
  pair_lt = omega (arith, second_lt, ltb-true a 256 ((and-eq-true_iff (fits_bits 8 a) (fits_bits 8 b)).0 e).0)

version_back : (a b c : ℕ) → (fits_bits 5 a && fits_bits 5 b && fits_bits 6 c) ≡ true
    → let p = 2048 * (a % 32) + 64 * (b % 32) + c % 64 in Version (p / 2048) (p / 64 % 32) (p % 64) ≡ Version a b c
version_back a b c e =
    let left = (and-eq-true_iff (fits_bits 5 a && fits_bits 5 b) (fits_bits 6 c)).0 e in
    let a_lt = ltb-true a 32 ((and-eq-true_iff (fits_bits 5 a) (fits_bits 5 b)).0 left.0).0 in
    let b_lt = ltb-true b 32 ((and-eq-true_iff (fits_bits 5 a) (fits_bits 5 b)).0 left.0).1 in
    let c_lt = ltb-true c 64 left.1 in
    let p = 2048 * (a % 32) + 64 * (b % 32) + c % 64 in
    let x : p / 2048 ≡ a = omega arith in
    let y : p / 64 % 32 ≡ b = omega arith in
    let z : p % 64 ≡ c = omega arith in
    rw (x, y, z)

-- a reserved opcode is none of the others
module _ (opcode : ℕ) (e : (leb 7 opcode && leb opcode 14) ≡ true) where
  above : 7 ≤ opcode
  above = leb-true 7 opcode ((and-eq-true_iff (leb 7 opcode) (leb opcode 14)).0 e).0

  below : opcode ≤ 14
  below = leb-true opcode 14 ((and-eq-true_iff (leb 7 opcode) (leb opcode 14)).0 e).1

  other : (k : ℕ) → k < 7 → eqb opcode k ≡ false
  other k h = ne_eqb opcode k (λ q. omega (arith, above))

  last : eqb opcode 15 ≡ false
  last = ne_eqb opcode 15 (λ q. omega (arith, below))

pub message_back : (m : FastChannel) → message_fits m ≡ true → message_of (opcode_of m) (payload_of m) ≡ m
unfolding message_of
message_back (CrcErrors n) e = refl
message_back (ReceivedPower n lock) e = rw (over n lock e, under n lock, lock_back lock)
message_back (PowerStatistics a b) e = rw (first a b e, second a b e)
message_back (SyncLosses n lock) e = rw (over n lock e, under n lock, lock_back lock)
message_back (PowerRange a b) e = rw (first a b e, second a b e)
message_back (Version a b c) e = version_back a b c e
message_back (CorrectedFrames n) e = refl
message_back (Reserved o) e =
    simp (
      other o e 0 (omega arith),
      other o e 1 (omega arith),
      other o e 2 (omega arith),
      other o e 3 (omega arith),
      other o e 4 (omega arith),
      other o e 5 (omega arith),
      other o e 6 (omega arith),
      last o e,
    )
message_back Absent e = refl

pub rule_kept : (m : FastChannel) → message_fits m ≡ true → payload_rule (opcode_of m) (payload_of m) ≡ true
unfolding payload_rule
rule_kept (CrcErrors n) e = refl
rule_kept (ReceivedPower n lock) e = locks n lock
rule_kept (PowerStatistics a b) e = refl
rule_kept (SyncLosses n lock) e = locks n lock
rule_kept (PowerRange a b) e = refl
rule_kept (Version a b c) e = refl
rule_kept (CorrectedFrames n) e = refl
rule_kept (Reserved o) e =
    simp (other o e 1 (omega arith), other o e 3 (omega arith), lt-leb o 6 (omega (arith, above o e)), last o e)
rule_kept Absent e = refl

pub payload_lt : (m : FastChannel) → message_fits m ≡ true → payload_of m < 65536
payload_lt (CrcErrors n) e = ltb-true n 65536 e
payload_lt (ReceivedPower n lock) e = omega (arith, lock_le lock)
payload_lt (PowerStatistics a b) e = pair_lt a b e
payload_lt (SyncLosses n lock) e = omega (arith, lock_le lock)
payload_lt (PowerRange a b) e = pair_lt a b e
payload_lt (Version a b c) e = omega arith
payload_lt (CorrectedFrames n) e = ltb-true n 65536 e
payload_lt (Reserved o) e = omega arith
payload_lt Absent e = omega arith

pub opcode_lt : (m : FastChannel) → message_fits m ≡ true → opcode_of m < 16
opcode_lt (CrcErrors n) e = omega arith
opcode_lt (ReceivedPower n lock) e = omega arith
opcode_lt (PowerStatistics a b) e = omega arith
opcode_lt (SyncLosses n lock) e = omega arith
opcode_lt (PowerRange a b) e = omega arith
opcode_lt (Version a b c) e = omega arith
opcode_lt (CorrectedFrames n) e = omega arith
opcode_lt (Reserved o) e = omega (arith, below o e)
opcode_lt Absent e = omega arith

-- ---- from the opcode and the payload

-- the message has this opcode and this payload, and may be sent
pub record Carries (o p : ℕ) (m : FastChannel) : Type 0 where
  pub opcode_is : opcode_of m ≡ o
  pub payload_is : payload_of m ≡ p
  pub message_fits_lem : message_fits m ≡ true

-- a choice has what both its ends have
chosen : {A : Type 0} (P : A → Type 0) (b : Bool) (x y : A) → (b ≡ true → P x) → (b ≡ false → P y) → P (cond b x y)
chosen P true x y f g = f refl
chosen P false x y f g = g refl

lock_number_lem : (n : ℕ) → n < 2 → lock_number (lock_of n) ≡ n
lock_number_lem n h = bit_cases (λ k. lock_number (lock_of k) ≡ k) refl refl n h

-- the payload of 14 bits and a lock
with_lock_lem : (p : ℕ) → p < 65536 → ltb (p % 4) 2 ≡ true → 4 * (p / 4 % 16384) + lock_number (lock_of (p % 4)) ≡ p
with_lock_lem p h e =
    let small = ltb-true (p % 4) 2 e in
    rw (lock_number_lem (p % 4) small) (omega arith)

past : (k o : ℕ) → k ≤ o → eqb o k ≡ false → suc k ≤ o
past k o h e = omega (arith, eqb-false o k e)

module _ (o p : ℕ) (o_lt : o < 16) (p-lt : p < 65536) (rule : payload_rule o p ≡ true) where
  -- the rule where the opcode is known
  rule_at : (k : ℕ) → eqb o k ≡ true → payload_rule k p ≡ true
  rule_at k e = subst (λ x. payload_rule x p ≡ true) (eqb-true o k e) rule

  is : (k : ℕ) → eqb o k ≡ true → k ≡ o
  is k e = sym (eqb-true o k e)

  power_fits : fits_bits 14 (p / 4) ≡ true
  power_fits = lt-ltb (p / 4) 16384 (omega arith)

  pair_fits : (fits_bits 8 (p / 256) && fits_bits 8 (p % 256)) ≡ true
  pair_fits = rw (lt-ltb (p / 256) 256 (omega arith), lt-ltb (p % 256) 256 (omega arith))

  version_fits : (fits_bits 5 (p / 2048) && fits_bits 5 (p / 64 % 32) && fits_bits 6 (p % 64)) ≡ true
  version_fits = rw (lt-ltb (p / 2048) 32 (omega arith), lt-ltb (p / 64 % 32) 32 (omega arith), lt-ltb (p % 64) 64 (omega arith))

  reserved_carries : 7 ≤ o → eqb o 15 ≡ false → Carries o p (Reserved o)
  unfolding payload_rule
  reserved_carries h e =
      let below-15 : o ≤ 14 = omega (arith, eqb-false o 15 e) in
      let others : eqb p 0 ≡ true = simp (ne_eqb o 1 (λ q. omega arith), ne_eqb o 3 (λ q. omega arith), lt-leb o 6 h, e) at rule in
      record { opcode_is = refl; payload_is = sym (eqb-true p 0 others); message_fits_lem = rw (le-leb 7 o h, le-leb o 14 below-15) }

  -- the message read carries them
  pub message_carries : Carries o p (message_of o p)
  unfolding message_of payload_rule
  message_carries =
      let P = Carries o p in
      chosen P (eqb o 0) _ _ (λ e. record { opcode_is = is 0 e; payload_is = refl; message_fits_lem = lt-ltb p 65536 p-lt })
      (λ e₀. chosen P (eqb o 1) _ _ (λ e. record { opcode_is = is 1 e; payload_is = with_lock_lem p p-lt (rule_at 1 e); message_fits_lem = power_fits })
      (λ e₁. chosen P (eqb o 2) _ _ (λ e. record { opcode_is = is 2 e; payload_is = omega arith; message_fits_lem = pair_fits })
      (λ e₂. chosen P (eqb o 3) _ _ (λ e. record { opcode_is = is 3 e; payload_is = with_lock_lem p p-lt (rule_at 3 e); message_fits_lem = power_fits })
      (λ e₃. chosen P (eqb o 4) _ _ (λ e. record { opcode_is = is 4 e; payload_is = omega arith; message_fits_lem = pair_fits })
      (λ e₄. chosen P (eqb o 5) _ _ (λ e. record { opcode_is = is 5 e; payload_is = omega arith; message_fits_lem = version_fits })
      (λ e₅. chosen P (eqb o 6) _ _ (λ e. record { opcode_is = is 6 e; payload_is = refl; message_fits_lem = lt-ltb p 65536 p-lt })
      (λ e₆. chosen P (eqb o 15) _ _ (λ e. record { opcode_is = is 15 e; payload_is = sym (eqb-true p 65535 (rule_at 15 e)); message_fits_lem = refl })
      (reserved_carries (past 6 o (past 5 o (past 4 o (past 3 o (past 2 o (past 1 o (past 0 o (omega arith) e₀) e₁) e₂) e₃) e₄) e₅) e₆)))))))))
