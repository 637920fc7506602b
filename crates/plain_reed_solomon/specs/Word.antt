-- What the plain form does to one word of a payload at a time. A private function's contract cites it; `Payload` of reed_solomon says what a payload is.
use Rattle.std.specs.Prelude.{List, ℕ, ◌+◌}
use Rattle.reed_solomon.specs.Code.{parity}
use Rattle.reed_solomon.specs.Payload.{every_eighth}
use Rattle.reed_solomon.specs.Rows.{spread}

-- a payload in which the parity of word k stands behind the 1,912 bytes of data
unfoldable pub with_parity : ℕ → List ℕ → List ℕ
with_parity k l = spread (parity (every_eighth 239 k l)) (1912 + k) l
