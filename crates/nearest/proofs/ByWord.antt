-- The codeword near a header by way of the word behind its zeros: what is near that word is the header's where it changes none of the zeros.
use mathlib.Core.Path.{◌≡◌, ap, ◌∙◌}
use Rattle.std.specs.Prelude.{None, Some}
use mathlib.Core.List.{List}
use Prim.Native.Nat.{ℕ}
use lib.ListN.{length, take, drop}
use Rattle.basics.specs.Lists.{zeros}
use Rattle.reed_solomon.specs.Code.{lengthened}
use Rattle.nearest.specs.Near.{near_header, near_word}
use Rattle.nearest.proofs.Nearest.{header_is, header_one, near_is, near_none, nothing}
use Rattle.nearest.proofs.Nearness.{NearWord, lengthened_front, lengthened_long, lengthened_near, one_word, sent_near}

module _ (h : List ℕ) (long : length h ≡ 32) where
  word_long : length (lengthened h) ≡ 255
  word_long = lengthened_long h long

  module _ (x : List ℕ) (near : near_word (lengthened h) ≡ Some x) where
    word_near : NearWord (lengthened h) x
    word_near = near_is (lengthened h) word_long x near

    pub header_found : take 223 x ≡ zeros 223 → near_header h ≡ Some (drop 223 x)
    header_found z = header_one h long (drop 223 x) (sent_near h x long word_near z)

    pub header_changed : (take 223 x ≡ zeros 223 → ⊥) → near_header h ≡ None
    header_changed f =
        nothing (near_header h) (λ c q.
        let n = header_is h long c q in
        let s : x ≡ lengthened c = one_word (lengthened h) x (lengthened c) word_long word_near (lengthened_near h c long n) in
        f (ap (take 223) s ∙ lengthened_front c n.1))

  pub header_missed : near_word (lengthened h) ≡ None → near_header h ≡ None
  header_missed q =
      nothing (near_header h) (λ c r. near_none (lengthened h) word_long q (lengthened c) (lengthened_near h c long (header_is h long c r)))
