-- What the library writes of a number of 64 bits is the number in decimal: both go from the last digit to the first, and put each in front of those behind it.
use Rattle.std.proofs.Common.{◌≡◌, ◌∙◌, sym, false, List, [], ◌∷◌, ◌++◌, ℕ, zero, suc, ◌+◌, ◌/◌, ◌%◌, ◌^◌, ◌<◌, ◌≤◌, arith, append_assoc, append-nil}
use Rattle.std.proofs.lemmas.Bool.{ne_eqb}
use native.Mathlib.Decide.{dec_le}
use native.Mathlib.Nat.{pow-suc}
use borrow.Author.Tests.{lt-ltb, le-ltb}
use Rattle.std.specs.Fmt.{digits_onto, digits, decimal as shown}
use Rattle.listing_lines.specs.Lines.{decimal_in, decimal}

module _ (k j number : ℕ) (behind : List ℕ) where
  abbrev Same : Type 0
  Same = digits_onto (suc k) 10 false number behind ≡ decimal_in (suc j) number ++ behind

  last : number < 10 → Same
  last h =
      let one = lt-ltb number 10 h in
      let digit = lt-ltb (number % 10) 10 (omega arith) in
      let none : number / 10 ≡ 0 = omega arith in
      rw (one, digit, none)

  before : 10 ≤ number
      → digits_onto k 10 false (number / 10) ((48 + number % 10) ∷ behind) ≡ decimal_in j (number / 10) ++ ((48 + number % 10) ∷ behind) → Same
  before h e =
      let more = le-ltb number 10 h in
      let digit = lt-ltb (number % 10) 10 (omega arith) in
      let some = ne_eqb (number / 10) 0 (λ n. omega (arith, n)) in
      rw (more, digit, some) (e ∙ sym (append_assoc (decimal_in j (number / 10)) ((48 + number % 10) ∷ []) behind))

-- where there is room for as many digits as the number has
both : (k j number : ℕ) (behind : List ℕ) → number < 10 ^ suc j → j ≤ k → Same k j number behind
both k zero number behind h l = last k zero number behind (omega (arith, h))
both zero (suc j) number behind h l = absurd (omega (arith, l))
both (suc k) (suc j) number behind h l =
    let shorter : number / 10 < 10 ^ suc j = omega (arith, h, pow-suc 10 (suc j)) in
    elim (dec_le 10 number) [
      | yes m ↦ before (suc k) (suc j) number behind m (both k j (number / 10) ((48 + number % 10) ∷ behind) shorter (omega (arith, l)))
      | no m ↦ last (suc k) (suc j) number behind (omega (arith, m))
    ]

pub decimal_shown : (number : ℕ) → number < 2 ^ 64 → shown number ≡ decimal number
unfolding digits decimal
decimal_shown number h = both 63 19 number [] (omega (arith, h)) (omega arith) ∙ append-nil (decimal_in 20 number)
