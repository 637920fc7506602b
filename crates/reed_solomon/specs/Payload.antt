-- The eight interleaved codewords of a payload (01, "Payload"): byte k belongs to codeword k mod 8 at place k div 8, the 1,912 bytes of data and the 128
-- parity bytes alike.
use Rattle.std.specs.Prelude.{Bool, ◌&&◌, List, [], ◌∷◌, ◌++◌, ℕ, zero, suc, ◌+◌, ◌/◌, ◌%◌, eqb, length, get_or}
use Rattle.basics.specs.Lists.{entries, all_below}
use Rattle.reed_solomon.specs.Code.{parity, is_codeword}

-- n bytes of a list, every eighth from k on
unfoldable pub every_eighth : ℕ → ℕ → List ℕ → List ℕ
every_eighth zero k l = []
every_eighth (suc n) k l = get_or l k 0 ∷ every_eighth n (k + 8) l

-- parity byte k of 1,912 bytes of data: it belongs to codeword k mod 8, at place k div 8 of that word's parity
unfoldable pub parity_byte : List ℕ → ℕ → ℕ
parity_byte message k = get_or (parity (every_eighth 239 (k % 8) message)) (k / 8) 0

-- the payload of 2,040 bytes: the data, then the 128 parity bytes
unfoldable pub coded_payload : List ℕ → List ℕ
coded_payload message = message ++ entries (parity_byte message) 0 128

-- whether all eight words of a payload are codewords
unfoldable pub are_codewords : List ℕ → Bool
are_codewords payload = eqb (length payload) 2040 && all_below 8 (λ k. is_codeword (every_eighth 255 k payload))
