-- The codeword near a word, and near a coded header: `near_word` and `near_header` find exactly what is near (`-is`, `-none`), and there is at most one
-- (`-one`, from `one_near` of reed_solomon).
use mathlib.Core.Path.{◌≡◌, refl}
use mathlib.Core.Bool.{Bool, true, ◌&&◌, false≢true}
use Rattle.std.specs.Prelude.{Option, None, Some, is_some}
use mathlib.Core.List.{List}
use Prim.Native.Nat.{ℕ}
use borrow.Author.Tests.{leb-true, le-leb}
use lib.Dec.{leb}
use lib.ListN.{length}
use Rattle.basics.specs.Lists.{zeros, Bytes}
use Rattle.basics.proofs.Tests.{both_true, left_true, right_true}
use Rattle.reed_solomon.specs.Code.{remainder_of, is_codeword, lengthened}
use Rattle.reed_solomon.proofs.Laws.{Codeword, codeword_true, true_codeword, codeword_length}
use Rattle.nearest.specs.Near.{differences, near_header, near_word, or_own}
use Rattle.nearest.proofs.First.{Passes, tried_is, tried_none, tried_one}
use Rattle.nearest.proofs.Nearness.{NearHeader, NearWord, self_near, one_header, one_word}

-- ---- what an answer says

pub found_is : (near : Option (List ℕ)) (own : List ℕ) → is_some near ≡ true → near ≡ Some (or_own near own)
found_is None own t = absurd (false≢true t)
found_is (Some c) own t = refl

pub nothing : (near : Option (List ℕ)) → ((c : List ℕ) → near ≡ Some c → ⊥) → near ≡ None
nothing None f = refl
nothing (Some c) f = absurd (f c refl)

-- ---- words

module _ (w : List ℕ) (long : length w ≡ 255) where
  abbrev is_near : List ℕ → Bool
  is_near c = is_codeword c && leb (differences c w) 8

  passes : (c : List ℕ) → NearWord w c → Passes 255 is_near c
  passes c n =
      let code = is_codeword c in
      let few = leb (differences c w) 8 in
      (n.0, codeword_length c (true_codeword c n.1), both_true code few n.1 (le-leb (differences c w) 8 n.2))

  passed : (c : List ℕ) → Passes 255 is_near c → NearWord w c
  passed c p =
      let code = is_codeword c in
      let few = leb (differences c w) 8 in
      (p.0, left_true code few p.2, leb-true (differences c w) 8 (right_true code few p.2))

  pub near_is : (c : List ℕ) → near_word w ≡ Some c → NearWord w c
  unfolding near_word
  near_is c e = passed c (tried_is 255 is_near c e)

  pub near_none : near_word w ≡ None → (c : List ℕ) → NearWord w c → ⊥
  unfolding near_word
  near_none e c n = tried_none 255 is_near e c (passes c n)

  pub near_one : (c : List ℕ) → NearWord w c → near_word w ≡ Some c
  unfolding near_word
  near_one c n = tried_one 255 is_near c (passes c n) (λ d p. one_word w d c long (passed d p) n)

  -- where no codeword is near, none is found
  pub near_nothing : ((c : List ℕ) → NearWord w c → ⊥) → near_word w ≡ None
  near_nothing f = nothing (near_word w) (λ c e. f c (near_is c e))

  -- a word that division leaves nothing of is the one near itself
  pub clean : Bytes w → remainder_of w ≡ zeros 16 → near_word w ≡ Some w
  unfolding Codeword
  clean hw e = near_one w (hw, codeword_true w (long, e), self_near w)

-- ---- headers

module _ (h : List ℕ) (long : length h ≡ 32) where
  abbrev is_near_header : List ℕ → Bool
  is_near_header c = is_codeword (lengthened c) && leb (differences c h) 8

  header_passes : (c : List ℕ) → NearHeader h c → Passes 32 is_near_header c
  header_passes c n =
      let code = is_codeword (lengthened c) in
      let few = leb (differences c h) 8 in
      (n.0, n.1, both_true code few n.2 (le-leb (differences c h) 8 n.3))

  header_passed : (c : List ℕ) → Passes 32 is_near_header c → NearHeader h c
  header_passed c p =
      let code = is_codeword (lengthened c) in
      let few = leb (differences c h) 8 in
      (p.0, p.1, left_true code few p.2, leb-true (differences c h) 8 (right_true code few p.2))

  pub header_is : (c : List ℕ) → near_header h ≡ Some c → NearHeader h c
  unfolding near_header
  header_is c e = header_passed c (tried_is 32 is_near_header c e)

  pub header_none : near_header h ≡ None → (c : List ℕ) → NearHeader h c → ⊥
  unfolding near_header
  header_none e c n = tried_none 32 is_near_header e c (header_passes c n)

  pub header_one : (c : List ℕ) → NearHeader h c → near_header h ≡ Some c
  unfolding near_header
  header_one c n = tried_one 32 is_near_header c (header_passes c n) (λ d p. one_header h d c long (header_passed d p) n)
