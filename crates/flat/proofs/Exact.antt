-- Numbers that fit give a message that may be sent. So of all that C can give as a message, exactly what does not fit is refused (6, by apply 11; for
-- the other direction, `fields_misfit` in HeadersFit.antt).
use mathlib.Core.Path.{◌≡◌, refl, sym, subst}
use mathlib.Core.Bool.{Bool, true, false, ◌&&◌}
use Prim.Native.Nat.{ℕ, ◌+◌, ◌%◌, ◌≤◌}
use native.Mathlib.Omega.{arith}
use lib.Dec.{eqb, leb}
use borrow.Author.Tests.{eqb-true, eqb-false, lt-ltb, le-leb, leb-true}
use Rattle.basics.proofs.Tests.{left_true, right_true, both_true}
use Rattle.fast_channel.specs.FastChannel.{message_fits}
use Rattle.flat.specs.Messages.{first_most, second_most, third_most, numbers_fit, message_of}

abbrev Sent : ℕ → Type 0
Sent opcode =
    (first second third : ℕ) → numbers_fit (record { opcode = opcode; first = first; second = second; third = third }) ≡ true
    → message_fits (message_of (record { opcode = opcode; first = first; second = second; third = third })) ≡ true

-- the four tests of the numbers, one by one
record Fitting (opcode first second third : ℕ) : Type 0 where
  known : opcode ≤ 15
  one : first ≤ first_most opcode
  two : second ≤ second_most opcode
  three : third ≤ third_most opcode

fitting : (opcode first second third : ℕ) → numbers_fit (record { opcode = opcode; first = first; second = second; third = third }) ≡ true
    → Fitting opcode first second third
unfolding numbers_fit
fitting opcode first second third e =
    let p = leb opcode 15 in
    let q = leb first (first_most opcode) in
    let r = leb second (second_most opcode) in
    let s = leb third (third_most opcode) in
    let pqr = left_true (p && q && r) s e in
    let pq = left_true (p && q) r pqr in
    record {
      known = leb-true opcode 15 (left_true p q pq);
      one = leb-true first (first_most opcode) (right_true p q pq);
      two = leb-true second (second_most opcode) (right_true (p && q) r pqr);
      three = leb-true third (third_most opcode) (right_true (p && q && r) s e);
    }

crc_errors : Sent 0
unfolding message_of first_most
crc_errors a b c e = let f = fitting 0 a b c e in lt-ltb a 65536 (omega (arith, f.one))

received_power : Sent 1
unfolding message_of first_most
received_power a b c e = let f = fitting 1 a b c e in lt-ltb a 16384 (omega (arith, f.one))

power_statistics : Sent 2
unfolding message_of
power_statistics a b c e = both_true _ _ (lt-ltb (a % 256) 256 (omega arith)) (lt-ltb (b % 256) 256 (omega arith))

sync_losses : Sent 3
unfolding message_of first_most
sync_losses a b c e = let f = fitting 3 a b c e in lt-ltb a 16384 (omega (arith, f.one))

power_range : Sent 4
unfolding message_of
power_range a b c e = both_true _ _ (lt-ltb (a % 256) 256 (omega arith)) (lt-ltb (b % 256) 256 (omega arith))

version : Sent 5
unfolding message_of first_most second_most third_most
version a b c e =
    let f = fitting 5 a b c e in
    both_true _ _ (both_true _ _ (lt-ltb (a % 256) 32 (omega (arith, f.one))) (lt-ltb (b % 256) 32 (omega (arith, f.two))))
    (lt-ltb (c % 256) 64 (omega (arith, f.three)))

corrected_frames : Sent 6
unfolding message_of first_most
corrected_frames a b c e = let f = fitting 6 a b c e in lt-ltb a 65536 (omega (arith, f.one))

absent : Sent 15
unfolding message_of
absent a b c e = refl

module _ (opcode : ℕ) where
  split : (k : ℕ) → Sent k → (eqb opcode k ≡ false → Sent opcode) → Sent opcode
  split k there elsewhere = go (eqb opcode k) refl
    where
      go : (t : Bool) → eqb opcode k ≡ t → Sent opcode
      go true e = subst Sent (sym (eqb-true opcode k e)) there
      go false e = elsewhere e

  past : (k : ℕ) → k ≤ opcode → eqb opcode k ≡ false → k + 1 ≤ opcode
  past k h e = let other = eqb-false opcode k e in omega arith

  module _ (n0 : eqb opcode 0 ≡ false) (n1 : eqb opcode 1 ≡ false) (n2 : eqb opcode 2 ≡ false) (n3 : eqb opcode 3 ≡ false)
      (n4 : eqb opcode 4 ≡ false) (n5 : eqb opcode 5 ≡ false) (n6 : eqb opcode 6 ≡ false) (n15 : eqb opcode 15 ≡ false) where
    reserved : Sent opcode
    unfolding message_of
    reserved a b c e =
        let f = fitting opcode a b c e in
        let above = past 6 (past 5 (past 4 (past 3 (past 2 (past 1 (past 0 (omega arith) n0) n1) n2) n3) n4) n5) n6 in
        let not-15 = eqb-false opcode 15 n15 in
        rw (n0, n1, n2, n3, n4, n5, n6, n15) (both_true _ _ (le-leb 7 opcode above) (le-leb opcode 14 (omega (arith, f.known))))

  pub numbers_sent : Sent opcode
  numbers_sent =
      split 0 crc_errors
      (λ n0. split 1 received_power
      (λ n1. split 2 power_statistics
      (λ n2. split 3 sync_losses
      (λ n3. split 4 power_range
      (λ n4. split 5 version
      (λ n5. split 6 corrected_frames
      (λ n6. split 15 absent
      (λ n15. reserved n0 n1 n2 n3 n4 n5 n6 n15))))))))
