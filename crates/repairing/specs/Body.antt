-- The 2,072 bytes after a preamble, unscrambled, as they are repaired (02, M-101): the coded header of 32 bytes, then a payload of 2,040 with its eight words.
use Rattle.std.specs.Prelude.{Bool, List, [], ◌∷◌, ◌++◌, ℕ, ◌/◌, ◌%◌, get_or, take, drop, is_some}
use Rattle.basics.specs.Lists.{entries, all_below}
use Rattle.refusals.specs.Table.{Row, ◌unless◌}
use Rattle.reed_solomon.specs.Payload.{every_eighth}
use Rattle.nearest.specs.Near.{near_word, near_header, repaired_word, repaired_header}

-- whether a codeword is near each of a payload's eight words
unfoldable pub words_near : List ℕ → Bool
words_near payload = all_below 8 (λ k. is_some (near_word (every_eighth 255 k payload)))

-- 8: no codeword is near the coded header. 12: none is near one of the eight words.
abbrev pub near_table : List ℕ → List Row
near_table body = 8 unless is_some (near_header (take 32 body)) ∷ 12 unless words_near (drop 32 body) ∷ []

-- byte k of a payload as repaired: it belongs to word k mod 8, at place k div 8 of that word
unfoldable pub repaired_byte : List ℕ → ℕ → ℕ
repaired_byte payload k = get_or (repaired_word (every_eighth 255 (k % 8) payload)) (k / 8) 0

unfoldable pub repaired_payload : List ℕ → List ℕ
repaired_payload payload = entries (repaired_byte payload) 0 2040

-- all 2,072 as repaired
unfoldable pub repaired_body : List ℕ → List ℕ
repaired_body body = repaired_header (take 32 body) ++ repaired_payload (drop 32 body)
