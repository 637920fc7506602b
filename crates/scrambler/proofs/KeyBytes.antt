-- The key's bytes, defined of the bits s(8 k) to s(8 k + 7), are what leaves the stages: with this tie the code goes by the stages.
use mathlib.Core.Path.{◌≡◌, refl, sym, ap, ap₂, ◌∙◌}
use mathlib.Core.List.{List, [], ◌∷◌}
use Prim.Native.Nat.{ℕ, zero, suc, ◌+◌, ◌*◌, ◌^◌}
use native.Mathlib.Numerals.{add-one}
use native.Mathlib.Omega.{arith}
use lib.Bits.{bit_xor}
use Rattle.basics.specs.Lists.{entries}
use Rattle.basics.specs.Numbers.{number}
use Rattle.basics.proofs.Lists.{entries_length}
use Rattle.scrambler.specs.Scrambler.{after, first_stages, bit, key_byte, with_key, scrambled}
use Rattle.scrambler.specs.Keys.{key, scrambled_from}
use Rattle.scrambler.proofs.Stages.{after_add}

-- the stages one bit further
after_suc : (taps k stages : ℕ) → after taps 1 (after taps k stages) ≡ after taps (suc k) stages
after_suc taps k stages = sym (after_add taps k 1 stages) ∙ ap (λ (n : ℕ). after taps n stages) (add-one k)

-- n bits from bit k on, as a number
key_bits : (taps n k : ℕ) → number (entries (bit taps) k n) ≡ key taps n (after taps k first_stages)
unfolding number entries bit key after
key_bits taps zero k = refl
key_bits taps (suc n) k =
    ap₂ (λ (l x : ℕ). bit taps k * 2 ^ l + x) (entries_length (bit taps) (suc k) n)
    (key_bits taps n (suc k) ∙ ap (key taps n) (sym (after_suc taps k first_stages)))

pub key_byte_lem : (taps k : ℕ) → key_byte taps k ≡ key taps 8 (after taps (8 * k) first_stages)
unfolding key_byte
key_byte_lem taps k = key_bits taps 8 (8 * k)

with_key_lem : (taps k : ℕ) (bytes : List ℕ) → with_key taps k bytes ≡ scrambled_from taps (after taps (8 * k) first_stages) bytes
unfolding with_key scrambled_from
with_key_lem taps k [] = refl
with_key_lem taps k (b ∷ bytes) =
    let e : 8 * suc k ≡ 8 * k + 8 = omega arith in
    ap₂ (λ (x : ℕ) (l : List ℕ). bit_xor b x ∷ l) (key_byte_lem taps k)
    (with_key_lem taps (suc k) bytes
    ∙ ap (λ (s : ℕ). scrambled_from taps s bytes) (ap (λ (n : ℕ). after taps n first_stages) e ∙ after_add taps (8 * k) 8 first_stages))

-- scrambling goes by the stages, from the first ones on
pub scrambled_stages : (taps : ℕ) (bytes : List ℕ) → scrambled taps bytes ≡ scrambled_from taps first_stages bytes
unfolding scrambled after
scrambled_stages taps bytes = with_key_lem taps 0 bytes
