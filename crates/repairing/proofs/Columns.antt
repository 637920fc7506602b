-- At most 8 bytes of the header and of each of the eight words are repaired, so at most 72 in all.
use mathlib.Core.Path.{◌≡◌, refl, sym, ap, ◌∙◌, subst}
use Rattle.std.specs.Prelude.{Option, None, Some}
use mathlib.Core.List.{List, ◌++◌}
use Prim.Native.Nat.{ℕ, zero, suc, ◌+◌, ◌-◌, ◌*◌, ◌≤◌, ◌<◌}
use native.Mathlib.Nat.{zero-add}
use native.Mathlib.Omega.{arith}
use lib.ListN.{length, get_or, take, drop, length-drop, take-append-drop, drop_of_length-le}
use lib.Seq.{length-take-le}
use Rattle.reed_solomon.specs.Payload.{every_eighth}
use Rattle.reed_solomon.proofs.Interleaved.{eighth_length}
use Rattle.nearest.specs.Near.{near_word, near_header, or_own, repaired_word, repaired_header, differences}
use Rattle.nearest.proofs.Nearest.{near_is, header_is}
use Rattle.repairing.specs.Body.{repaired_payload, repaired_body}
use Rattle.nearest.proofs.Nearness.{self_near}
use Rattle.repairing.proofs.Differences.{differing, differ_sym, differ_append, differ_turn}
use Rattle.repairing.proofs.Words.{payload_length, eighth_repaired}
use Rattle.repairing.proofs.Lengths.{header_length}

-- ---- eight columns

module _ (l m : List ℕ) where
  -- the differences of column k, n rows
  abbrev column : ℕ → ℕ → ℕ
  column n k = differences (every_eighth n k l) (every_eighth n k m)

  abbrev differs : ℕ → ℕ
  differs p = differing (get_or l p 0) (get_or m p 0)

  -- j columns from p on; j places from p on
  unfoldable columns : ℕ → ℕ → ℕ → ℕ
  columns zero n p = 0
  columns (suc j) n p = column n p + columns j n (suc p)

  unfoldable row : ℕ → ℕ → ℕ
  row zero p = 0
  row (suc j) p = differs p + row j (suc p)

  column_more : (n p : ℕ) → column (suc n) p ≡ differs p + column n (p + 8)
  unfolding every_eighth differences
  column_more n p = refl

  columns_more : (j n p : ℕ) → columns j (suc n) p ≡ row j p + columns j n (p + 8)
  unfolding columns row
  columns_more zero n p = refl
  columns_more (suc j) n p =
      let e : suc p + 8 ≡ suc (p + 8) = omega arith in
      let rest : columns j (suc n) (suc p) ≡ row j (suc p) + columns j n (suc (p + 8)) =
      columns_more j n (suc p) ∙ ap (λ (q : ℕ). row j (suc p) + columns j n q) e in
      omega (arith, column_more n p, rest)

  columns_none : (j p : ℕ) → columns j 0 p ≡ 0
  unfolding columns every_eighth differences
  columns_none zero p = refl
  columns_none (suc j) p = zero-add (columns j 0 (suc p)) ∙ columns_none j (suc p)

  row_off : (j p : ℕ) → p + j ≤ length l → p + j ≤ length m
      → differences (drop p l) (drop p m) ≡ row j p + differences (drop (p + j) l) (drop (p + j) m)
  unfolding row
  row_off zero p hl hm =
      let e : p ≡ p + 0 = omega arith in
      ap (λ (q : ℕ). differences (drop q l) (drop q m)) e ∙ sym (zero-add (differences (drop (p + 0) l) (drop (p + 0) m)))
  row_off (suc j) p hl hm =
      let a : p + 1 ≡ suc p = omega arith in
      let b : suc p + j ≡ p + suc j = omega arith in
      let first : differences (drop p l) (drop p m) ≡ differs p + differences (drop (suc p) l) (drop (suc p) m) =
      differ_turn l m p (omega arith) (omega arith) ∙ ap (λ (q : ℕ). differs p + differences (drop q l) (drop q m)) a in
      let rest : differences (drop (suc p) l) (drop (suc p) m) ≡ row j (suc p) + differences (drop (p + suc j) l) (drop (p + suc j) m) =
      row_off j (suc p) (omega arith) (omega arith) ∙ ap (λ (q : ℕ). row j (suc p) + differences (drop q l) (drop q m)) b in
      omega (arith, first, rest)

  all_columns : (n p : ℕ) → length l ≡ p + 8 * n → length m ≡ p + 8 * n → differences (drop p l) (drop p m) ≡ columns 8 n p
  unfolding differences
  all_columns zero p hl hm =
      let h : length l ≤ p = omega arith in
      ap (λ (a : List ℕ). differences a (drop p m)) (drop_of_length-le l h) ∙ sym (columns_none 8 p)
  all_columns (suc n) p hl hm =
      row_off 8 p (omega arith) (omega arith) ∙ ap (λ (x : ℕ). row 8 p + x) (all_columns n (p + 8) (omega arith) (omega arith))
      ∙ sym (columns_more 8 n p)

  columns_most : (j n p : ℕ) → ((k : ℕ) → k < p + j → column n k ≤ 8) → columns j n p ≤ 8 * j
  unfolding columns
  columns_most zero n p few = omega arith
  columns_most (suc j) n p few =
      omega (arith, few p (omega arith), columns_most j n (suc p) (λ k h. few k (omega arith)))

-- ---- a word, the header, the whole

few_of_own : (own : List ℕ) (near : Option (List ℕ)) → ((c : List ℕ) → near ≡ Some c → differences c own ≤ 8) → differences (or_own near own) own ≤ 8
few_of_own own None few = self_near own
few_of_own own (Some c) few = few c refl

pub word_few : (word : List ℕ) → length word ≡ 255 → differences (repaired_word word) word ≤ 8
unfolding repaired_word
word_few word long = few_of_own word (near_word word) (λ c e. (near_is word long c e).2)

pub header_few : (header : List ℕ) → length header ≡ 32 → differences (repaired_header header) header ≤ 8
unfolding repaired_header
header_few header long = few_of_own header (near_header header) (λ c e. (header_is header long c e).3)

module _ (body : List ℕ) (long : length body ≡ 2072) where
  pub words_few : (k : ℕ) → k < 8 → differences (every_eighth 255 k (repaired_payload (drop 32 body))) (every_eighth 255 k (drop 32 body)) ≤ 8
  words_few k h =
      let payload = drop 32 body in
      subst (λ (w : List ℕ). differences w (every_eighth 255 k payload) ≤ 8) (sym (eighth_repaired k payload h))
      (word_few (every_eighth 255 k payload) (eighth_length 255 k payload))

  payload_few : differences (repaired_payload (drop 32 body)) (drop 32 body) ≤ 64
  payload_few =
      let payload = drop 32 body in
      let after = repaired_payload payload in
      let size : length payload ≡ 2040 = length-drop 32 body ∙ ap (λ (n : ℕ). n - 32) long in
      omega (arith, all_columns after payload 255 0 (payload_length payload) size, columns_most after payload 8 255 0 words_few)

  pub body_few : differences body (repaired_body body) ≤ 72
  unfolding repaired_body
  body_few =
      let header = take 32 body in
      let payload = drop 32 body in
      let size : length header ≡ 32 = length-take-le 32 body (omega arith) in
      let e : differences body (repaired_header header ++ repaired_payload payload)
      ≡ differences (repaired_header header) header + differences (repaired_payload payload) payload =
      differ_sym body (repaired_header header ++ repaired_payload payload)
      ∙ ap (differences (repaired_header header ++ repaired_payload payload)) (sym (take-append-drop 32 body))
      ∙ differ_append (repaired_header header) (repaired_payload payload) header payload (header_length header size ∙ sym size) in
      omega (arith, e, header_few header size, payload_few)
