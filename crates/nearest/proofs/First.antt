-- Trying all words: what is found passes the test (`tried_is`), where nothing is found nothing passes (`tried_none`), and one that passes alone is found.
use mathlib.Core.Path.{◌≡◌, refl, sym, ap, ◌∙◌, subst}
use mathlib.Core.Logic.{◌⊎◌, ⊎_elim}
use mathlib.Core.Bool.{Bool, true, false, false≢true}
use Rattle.std.specs.Prelude.{Option, None, Some}
use mathlib.Core.List.{List, [], ◌∷◌}
use Prim.Native.Nat.{ℕ, zero, suc, ◌<◌}
use native.Mathlib.Omega.{arith}
use lib.ListN.{length}
use Rattle.basics.specs.Lists.{Bytes}
use Rattle.nearest.specs.Near.{answered, first_below, first_word, or_else}
use Rattle.nearest.proofs.PlaceLists.{same_or}

record FoundBelow (n : ℕ) (ask : ℕ → Option (List ℕ)) (answer : List ℕ) : Type 0 where
  pub at : ℕ
  pub below : at < n
  pub is : ask at ≡ Some answer

found_below : (n : ℕ) (ask : ℕ → Option (List ℕ)) (answer : List ℕ) → first_below n ask ≡ Some answer → FoundBelow n ask answer
unfolding first_below
found_below zero ask answer e = absurd (cc)
found_below (suc n) ask answer e = go (first_below n ask) refl e (λ q. found_below n ask answer q)
  where
    go : (o : Option (List ℕ)) → first_below n ask ≡ o → or_else o (ask n) ≡ Some answer
        → (first_below n ask ≡ Some answer → FoundBelow n ask answer)
        → FoundBelow (suc n) ask answer
    go None q r ih = record { at = n; below = omega arith; is = r }
    go (Some c) q r ih = let b = ih (q ∙ r) in record { at = b.at; below = omega (arith, b.below); is = b.is }

none_below : (n : ℕ) (ask : ℕ → Option (List ℕ)) → first_below n ask ≡ None → (k : ℕ) → k < n → ask k ≡ None
unfolding first_below
none_below zero ask e k h = absurd (omega arith)
none_below (suc n) ask e k h = go (first_below n ask) refl e (same_or k n) (λ q. none_below n ask q k)
  where
    go : (o : Option (List ℕ)) → first_below n ask ≡ o → or_else o (ask n) ≡ None → (k ≡ n) ⊎ (k ≡ n → ⊥)
        → (first_below n ask ≡ None → k < n → ask k ≡ None) → ask k ≡ None
    go None q r d ih = ⊎_elim (λ (z : k ≡ n). ap ask z ∙ r) (λ z. ih q (omega (arith, z))) d
    go (Some c) q r d ih = absurd (cc)

record FoundWord (n : ℕ) (ask : List ℕ → Option (List ℕ)) (answer : List ℕ) : Type 0 where
  pub at : List ℕ
  pub bytes : Bytes at
  pub long : length at ≡ n
  pub is : ask at ≡ Some answer

found_word : (n : ℕ) (ask : List ℕ → Option (List ℕ)) (answer : List ℕ) → first_word n ask ≡ Some answer → FoundWord n ask answer
unfolding first_word
found_word zero ask answer e = record { at = []; bytes = tt; long = refl; is = e }
found_word (suc n) ask answer e =
    let b = found_below 256 (λ b. first_word n (λ c. ask (b ∷ c))) answer e in
    let r = found_word n (λ c. ask (b.at ∷ c)) answer b.is in
    record { at = b.at ∷ r.at; bytes = (b.below, r.bytes); long = ap suc r.long; is = r.is }

none_word : (n : ℕ) (ask : List ℕ → Option (List ℕ)) → first_word n ask ≡ None → (c : List ℕ) → Bytes c → length c ≡ n → ask c ≡ None
unfolding first_word
none_word zero ask e [] h l = e
none_word zero ask e (b ∷ c) h l = absurd (omega arith)
none_word (suc n) ask e [] h l = absurd (omega arith)
none_word (suc n) ask e (b ∷ c) h l =
    none_word n (λ c. ask (b ∷ c)) (none_below 256 (λ b. first_word n (λ c. ask (b ∷ c))) e b h.0) c h.1 (omega arith)

-- ---- the first word that a test passes

module _ (n : ℕ) (test : List ℕ → Bool) where
  abbrev tried : Option (List ℕ)
  tried = first_word n (λ c. answered (test c) c)

  abbrev pub Passes : List ℕ → Type 0
  Passes c = Bytes c × (length c ≡ n) × (test c ≡ true)

  some_is : (b : Bool) (a c : List ℕ) → answered b a ≡ Some c → (b ≡ true) × (a ≡ c)
  some_is true a c e = (refl, cc)
  some_is false a c e = absurd (cc)

  none_is : (b : Bool) (a : List ℕ) → answered b a ≡ None → b ≡ true → ⊥
  none_is true a e t = absurd (cc)
  none_is false a e t = false≢true t

  pub tried_is : (c : List ℕ) → tried ≡ Some c → Passes c
  tried_is c e =
      let f = found_word n (λ c. answered (test c) c) c e in
      let s = some_is (test f.at) f.at c f.is in
      (subst Bytes s.1 f.bytes, ap length (sym s.1) ∙ f.long, ap test (sym s.1) ∙ s.0)

  pub tried_none : tried ≡ None → (c : List ℕ) → Passes c → ⊥
  tried_none e c p = none_is (test c) c (none_word n (λ c. answered (test c) c) e c p.0 p.1) p.2

  -- where at most one passes, it is found
  pub tried_one : (c : List ℕ) → Passes c → ((d : List ℕ) → Passes d → d ≡ c) → tried ≡ Some c
  tried_one c p one = go tried refl
    where
      go : (o : Option (List ℕ)) → tried ≡ o → tried ≡ Some c
      go None e = absurd (tried_none e c p)
      go (Some d) e = e ∙ ap Some (one d (tried_is d e))
