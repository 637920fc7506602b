-- Where division leaves nothing of the header and of the eight words the body is coded as it stands.
use mathlib.Core.Path.{◌≡◌, refl, sym, ap, ap₂, ◌∙◌}
use mathlib.Core.List.{List, ◌∷◌}
use Prim.Native.Nat.{ℕ, zero, suc, ◌+◌}
use native.Mathlib.Omega.{arith}
use lib.ListN.{length, take, drop, length-drop}
use lib.Seq.{length-take-le}
use Rattle.basics.specs.Lists.{zeros, Bytes, entries}
use Rattle.basics.proofs.Lists.{zeros_at}
use Rattle.reed_solomon.specs.Code.{lengthened, remainder_of}
use Rattle.reed_solomon.specs.Payload.{every_eighth}
use Rattle.reed_solomon.specs.Rows.{remainder_byte}
use Rattle.reed_solomon.proofs.Laws.{Codeword, codeword_true}
use Rattle.reed_solomon.proofs.Interleaved.{eighth_length, codewords_true}
use Rattle.reed_solomon.proofs.Remainders.{remainder_of_word}
use Rattle.nearest.proofs.Nearness.{lengthened_long}
use Rattle.repairing.specs.NearPart.{Coded}

eighth_zeros : (n k m : ℕ) → every_eighth n k (zeros m) ≡ zeros n
unfolding every_eighth
eighth_zeros zero k m = refl
eighth_zeros (suc n) k m = ap₂ (λ (h : ℕ) (t : List ℕ). h ∷ t) (zeros_at m k) (eighth_zeros n (k + 8) m)

module _ (body : List ℕ) (bytes : Bytes body) (long : length body ≡ 2072) where
  pub clean_coded : remainder_of (lengthened (take 32 body)) ≡ zeros 16 → entries (remainder_byte (drop 32 body)) 0 128 ≡ zeros 128 → Coded body
  unfolding Codeword
  clean_coded header words = record {
    bytes = bytes;
    long = long;
    header = codeword_true (lengthened (take 32 body)) (lengthened_long (take 32 body) (length-take-le 32 body (omega arith)), header);
    words = codewords_true (drop 32 body) record {
      long = length-drop 32 body ∙ omega arith;
      each = λ k h. (
        eighth_length 255 k (drop 32 body),
        sym (remainder_of_word (drop 32 body) k h) ∙ ap (every_eighth 16 k) words ∙ eighth_zeros 16 k 128,
      );
    };
  }
