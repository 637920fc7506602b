-- Scrambling as frames use it: it is its own inverse, keeps the length, and makes bytes of bytes.
use mathlib.Core.Path.{◌≡◌, refl, sym, ap, ap₂, ◌∙◌, subst}
use mathlib.Core.List.{List, [], ◌∷◌, ◌++◌}
use Prim.Native.Nat.{ℕ, suc, ◌+◌, ◌*◌}
use native.Mathlib.Omega.{arith}
use lib.Bits.{bit_xor, xor_comm, xor_lt}
use lib.ListN.{length}
use Rattle.basics.specs.Lists.{Bytes}
use Rattle.basics.proofs.Xor.{xor_cancel}
use Rattle.scrambler.specs.Scrambler.{after, first_stages, scrambled}
use Rattle.scrambler.specs.Keys.{key, scrambled_from}
use Rattle.scrambler.proofs.Stages.{after_add}
use Rattle.scrambler.proofs.KeyBytes.{scrambled_stages}
use Rattle.scrambler.proofs.Steps.{key_lt}

pub scrambled_from_twice : (taps stages : ℕ) (bytes : List ℕ) → scrambled_from taps stages (scrambled_from taps stages bytes) ≡ bytes
unfolding scrambled_from
scrambled_from_twice taps stages [] = refl
scrambled_from_twice taps stages (b ∷ bytes) =
    let k = key taps 8 stages in
    ap₂ (λ (x : ℕ) (l : List ℕ). x ∷ l) (ap (λ (x : ℕ). bit_xor x k) (xor_comm b k) ∙ xor_comm (bit_xor k b) k ∙ xor_cancel k b)
    (scrambled_from_twice taps (after taps 8 stages) bytes)

pub scrambled_twice : (taps : ℕ) (bytes : List ℕ) → scrambled taps (scrambled taps bytes) ≡ bytes
scrambled_twice taps bytes =
    scrambled_stages taps (scrambled taps bytes)
    ∙ ap (scrambled_from taps first_stages) (scrambled_stages taps bytes)
    ∙ scrambled_from_twice taps first_stages bytes

pub scrambled_from_length : (taps stages : ℕ) (bytes : List ℕ) → length (scrambled_from taps stages bytes) ≡ length bytes
unfolding scrambled_from
scrambled_from_length taps stages [] = refl
scrambled_from_length taps stages (b ∷ bytes) = ap suc (scrambled_from_length taps (after taps 8 stages) bytes)

pub scrambled_length : (taps : ℕ) (bytes : List ℕ) → length (scrambled taps bytes) ≡ length bytes
scrambled_length taps bytes = ap length (scrambled_stages taps bytes) ∙ scrambled_from_length taps first_stages bytes

-- bytes stay bytes
scrambled_from_bytes : (taps stages : ℕ) (bytes : List ℕ) → Bytes bytes → Bytes (scrambled_from taps stages bytes)
unfolding scrambled_from
scrambled_from_bytes taps stages [] h = tt
scrambled_from_bytes taps stages (b ∷ bytes) h =
    (xor_lt 8 b (key taps 8 stages) h.0 (key_lt taps 8 stages), scrambled_from_bytes taps (after taps 8 stages) bytes h.1)

pub scrambled_bytes : (taps : ℕ) (bytes : List ℕ) → Bytes bytes → Bytes (scrambled taps bytes)
scrambled_bytes taps bytes h = subst Bytes (sym (scrambled_stages taps bytes)) (scrambled_from_bytes taps first_stages bytes h)

-- bytes behind others are scrambled with the bits that come then
pub scrambled_append : (taps stages : ℕ) (front rest : List ℕ)
    → scrambled_from taps stages (front ++ rest) ≡ scrambled_from taps stages front ++ scrambled_from taps (after taps (8 * length front) stages) rest
unfolding scrambled_from after
scrambled_append taps stages [] rest = refl
scrambled_append taps stages (b ∷ front) rest =
    let e : 8 + 8 * length front ≡ 8 * suc (length front) = omega arith in
    ap (λ (l : List ℕ). bit_xor b (key taps 8 stages) ∷ l)
    (scrambled_append taps (after taps 8 stages) front rest
    ∙ ap (λ (s : ℕ). scrambled_from taps (after taps 8 stages) front ++ scrambled_from taps s rest)
    (sym (after_add taps 8 (8 * length front) stages) ∙ ap (λ (n : ℕ). after taps n stages) e))
