-- What the code does to a payload: it goes through it row by row, keeps what division leaves of the words, and writes one word at a time. Contracts of
-- functions below the calls cite it; `Payload` says what a payload is.
use Rattle.std.specs.Prelude.{List, [], ◌∷◌, ℕ, ◌+◌, ◌*◌, ◌/◌, ◌%◌, get_or, set}
use Rattle.basics.specs.Lists.{entries}
use Rattle.basics.specs.Numbers.{number_at}
use Rattle.reed_solomon.specs.Code.{remainder_of}
use Rattle.reed_solomon.specs.Payload.{every_eighth}

-- the 239 rows of 1,912 bytes of data: each is eight neighbours as one number, the byte of word k at byte k
unfoldable pub rows : List ℕ → List ℕ
rows message = entries (λ i. number_at (8 * i) 8 message) 0 239

-- byte k of what division leaves of a payload's words: it belongs to word k mod 8, at place k div 8 of that word's remainder
unfoldable pub remainder_byte : List ℕ → ℕ → ℕ
remainder_byte payload k = get_or (remainder_of (every_eighth 255 (k % 8) payload)) (k / 8) 0

-- the bytes xs put at every eighth place from k on
unfoldable pub spread : List ℕ → ℕ → List ℕ → List ℕ
spread [] k l = l
spread (x ∷ xs) k l = spread xs (k + 8) (set l k x)
