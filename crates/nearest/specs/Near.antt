-- Repair of damaged bytes (02, M-101): the codeword within 8 byte differences of a word, found by trying all words. No search stands here, and nothing
-- of this is ever computed; the code searches (`Search`) and is proved to find the same.
--   near_word, near_header            the codeword that near, or none; at most one is (`one_word`, `one_header`, from `one_near` of reed_solomon)
--   repaired_word, repaired_header    it, or the word itself where none is that near
--   differences                     how many places of two lists differ
--   first_word                       the first answer of a question that is asked of all lists of n bytes
use Rattle.std.specs.Prelude.{Bool, ◌&&◌, cond, List, [], ◌∷◌, ℕ, zero, suc, ◌+◌, eqb, leb, Option, Some, None}
use Rattle.reed_solomon.specs.Code.{is_codeword, lengthened}

-- ---- trying all words

-- the first of two answers, or the second where the first is none
abbrev pub or_else : Option (List ℕ) → Option (List ℕ) → Option (List ℕ)
or_else None other = other
or_else (Some answer) other = Some answer

-- the first answer to a question, asked of the numbers below n
unfoldable pub first_below : ℕ → (ℕ → Option (List ℕ)) → Option (List ℕ)
first_below zero ask = None
first_below (suc n) ask = or_else (first_below n ask) (ask n)

-- the first answer to a question, asked of all lists of n bytes
unfoldable pub first_word : ℕ → (List ℕ → Option (List ℕ)) → Option (List ℕ)
first_word zero ask = ask []
first_word (suc n) ask = first_below 256 (λ byte. first_word n (λ bytes. ask (byte ∷ bytes)))

-- a word that passes a test answers itself
abbrev pub answered : Bool → List ℕ → Option (List ℕ)
answered passes word = cond passes (Some word) None

-- ---- near a word

-- the number of places where two lists of one length differ
unfoldable pub differences : List ℕ → List ℕ → ℕ
differences [] others = 0
differences (byte ∷ bytes) [] = 0
differences (byte ∷ bytes) (other ∷ others) = cond (eqb byte other) 0 1 + differences bytes others

-- the codeword within 8 byte differences of a payload word, which has 255 bytes
unfoldable pub near_word : List ℕ → Option (List ℕ)
near_word word = first_word 255 (λ tried. answered (is_codeword tried && leb (differences tried word) 8) tried)

-- the same of the coded header, which has 32 bytes: its 223 unsent bytes count as correct
unfoldable pub near_header : List ℕ → Option (List ℕ)
near_header header = first_word 32 (λ tried. answered (is_codeword (lengthened tried) && leb (differences tried header) 8) tried)

-- ---- repaired

-- what is near, or what came
abbrev pub or_own : Option (List ℕ) → List ℕ → List ℕ
or_own None own = own
or_own (Some near) own = near

-- a payload word and a coded header as repaired: as they came where no codeword is that near
unfoldable pub repaired_word : List ℕ → List ℕ
repaired_word word = or_own (near_word word) word

unfoldable pub repaired_header : List ℕ → List ℕ
repaired_header header = or_own (near_header header) header
