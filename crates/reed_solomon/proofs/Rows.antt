-- The rows of a payload: word k's bytes in them are every eighth byte, so the registers fed with them hold the payload's parity bytes.
use mathlib.Core.Path.{◌≡◌, refl, sym, ap, ◌∙◌}
use mathlib.Core.List.{List, ◌∷◌, ◌++◌, append-nil, map}
use Prim.Native.Nat.{ℕ, zero, suc, ◌+◌, ◌*◌, ◌/◌, ◌%◌, ◌≤◌, ◌<◌}
use native.Mathlib.Nat.{mod-lt, zero-add, add_comm}
use native.Mathlib.Numerals.{add-one}
use native.Mathlib.Omega.{arith}
use lib.Dec.{lit<}
use lib.ListN.{length, get_or, take, drop_of_length-le, length-map}
use lib.Seq.{ext_get_or}
use Rattle.std.specs.List.{range_with_len}
use Rattle.basics.specs.Lists.{Bytes, entries}
use Rattle.basics.specs.Numbers.{number_at}
use Rattle.basics.proofs.Lists.{entries_length, entries_at}
use Rattle.basics.proofs.Numbers.{byte_at, number_byte}
use Rattle.lent.specs.Written.{written}
use Rattle.lent.specs.Numbers.{bytes_of}
use Rattle.lent.proofs.Bytes.{bytes_length, bytes_at}
use Rattle.reed_solomon.specs.Code.{parity}
use Rattle.reed_solomon.proofs.Registers.{word_in, word_at, registers_of, registers_length, registers_word}
use Rattle.reed_solomon.specs.Payload.{every_eighth, parity_byte, coded_payload}
use Rattle.reed_solomon.specs.Rows.{rows}
use Rattle.reed_solomon.proofs.Interleaved.{eighth_length, eighth_at}

mapped_entries : (f : ℕ → ℕ) (i n : ℕ) → map f (range_with_len i n) ≡ entries f i n
unfolding entries
mapped_entries f i zero = refl
mapped_entries f i (suc n) = ap (λ (l : List ℕ). f i ∷ l) (ap (λ (j : ℕ). map f (range_with_len j n)) (add-one i) ∙ mapped_entries f (suc i) n)

module _ (message : List ℕ) where
  pub rows_length : length (rows message) ≡ 239
  unfolding rows
  rows_length = entries_length (λ i. number_at (8 * i) 8 message) 0 239

  pub row_at : (i : ℕ) → i < 239 → get_or (rows message) i 0 ≡ number_at (8 * i) 8 message
  unfolding rows
  row_at i h = entries_at (λ i. number_at (8 * i) 8 message) 0 239 i h ∙ ap (λ (j : ℕ). number_at (8 * j) 8 message) (zero-add i)

  -- the same, as a range is mapped
  pub rows_mapped : map (λ i. number_at (8 * i) 8 message) (range_with_len 0 239) ≡ rows message
  unfolding rows
  rows_mapped = mapped_entries (λ i. number_at (8 * i) 8 message) 0 239

module _ (message : List ℕ) (bytes : Bytes message) where
  word_rows : (k : ℕ) → k < 8 → word_in k (rows message) ≡ every_eighth 239 k message
  word_rows k h =
      let long = length-map (rows message) (byte_at k) ∙ rows_length message in
      ext_get_or 0 (word_in k (rows message)) (every_eighth 239 k message) (long ∙ sym (eighth_length 239 k message))
      (λ i hi.
      let short : i < 239 = omega (arith, long) in
      word_at k (rows message) i ∙ ap (byte_at k) (row_at message i short) ∙ number_byte message bytes (8 * i) 8 k h
      ∙ ap (λ (j : ℕ). get_or message j 0) (add_comm (8 * i) k) ∙ sym (eighth_at 239 k message i short))

  parity_at : (k j : ℕ) → k < 8 → byte_at k (get_or (registers_of (rows message)) j 0) ≡ get_or (parity (every_eighth 239 k message)) j 0
  parity_at k j h =
      sym (word_at k (registers_of (rows message)) j)
      ∙ ap (λ (l : List ℕ). get_or l j 0) (registers_word k h (rows message) ∙ ap parity (word_rows k h))

  pub parity_is : bytes_of (registers_of (rows message)) ≡ entries (parity_byte message) 0 128
  unfolding parity_byte
  parity_is =
      let registers = registers_of (rows message) in
      let long : length (bytes_of registers) ≡ 128 = bytes_length registers ∙ ap (λ (n : ℕ). 8 * n) (registers_length (rows message)) in
      ext_get_or 0 (bytes_of registers) (entries (parity_byte message) 0 128) (long ∙ sym (entries_length (parity_byte message) 0 128))
      (λ i hi.
      let e : i ≡ 8 * (i / 8) + i % 8 = omega arith in
      ap (λ (n : ℕ). get_or (bytes_of registers) n 0) e ∙ bytes_at registers (i / 8) (i % 8) (mod-lt i (lit< tt))
      ∙ parity_at (i % 8) (i / 8) (mod-lt i (lit< tt))
      ∙ sym (entries_at (parity_byte message) 0 128 i (omega arith) ∙ ap (parity_byte message) (zero-add i)))

-- ---- the parity bytes, written and compared

module _ (l : List ℕ) (long : length l ≡ 2040) where
  abbrev behind : List ℕ
  behind = entries (parity_byte (take 1912 l)) 0 128

  pub coded_written : written l 1912 behind ≡ coded_payload (take 1912 l)
  unfolding written coded_payload
  coded_written =
      let all : length l ≤ 1912 + length behind = omega (arith, entries_length (parity_byte (take 1912 l)) 0 128) in
      ap (λ (t : List ℕ). take 1912 l ++ behind ++ t) (drop_of_length-le l all) ∙ append-nil (take 1912 l ++ behind)
