-- Reading and writing round, place by place: in a ring of 32,768 bytes, byte i behind the start stands at (start + i) modulo
-- 32,768; what is written round stands there afterwards, and every other byte keeps its value.
use mathlib.Core.Path.{◌≡◌, sym, ap, ◌∙◌}
use mathlib.Core.Logic.{◌⊎◌, ⊎_elim}
use mathlib.Core.List.{List}
use Prim.Native.Nat.{ℕ, ◌+◌, ◌-◌, ◌%◌, ◌≤◌, ◌<◌}
use native.Mathlib.Omega.{arith}
use lib.ListN.{length, get_or}
use Rattle.basics.proofs.Tests.{lt_or_ge}
use Rattle.lent.specs.Written.{written}
use Rattle.lent.proofs.Written.{written_there, kept_before, kept_behind}
use Rattle.ring.specs.Ring.{round_from, ring_written}
use Rattle.ring.proofs.Laws.{round_length, byte_near, byte_far, ring_length, ring_read}

module _ (buffer : List ℕ) (start : ℕ) (i : ℕ) (long : length buffer ≡ 32768) (s : start < 32768) (l : i < 32768) where
  pub round_stands : get_or (round_from start buffer) i 0 ≡ get_or buffer ((start + i) % 32768) 0
  round_stands = ⊎_elim near far (lt_or_ge (start + i) 32768)
    where
      near : start + i < 32768 → get_or (round_from start buffer) i 0 ≡ get_or buffer ((start + i) % 32768) 0
      near h =
          let place : start + i ≡ (start + i) % 32768 = omega arith in
          sym (byte_near start buffer (omega (arith, long)) i (omega (arith, long))) ∙ ap (λ (p : ℕ). get_or buffer p 0) place

      far : 32768 ≤ start + i → get_or (round_from start buffer) i 0 ≡ get_or buffer ((start + i) % 32768) 0
      far h =
          let place : i - (length buffer - start) ≡ (start + i) % 32768 = omega (arith, long) in
          sym (byte_far start buffer (omega (arith, long)) i (omega (arith, long)) (omega (arith, long))) ∙ ap (λ (p : ℕ). get_or buffer p 0) place

module _ (buffer : List ℕ) (start at : ℕ) (bytes : List ℕ) (long : length buffer ≡ 32768) (s : start < 32768) (fits : at + length bytes ≤ 32768) where
  abbrev after : List ℕ
  after = ring_written buffer start at bytes

  abbrev round : List ℕ
  round = round_from start buffer

  inside : at + length bytes ≤ length round
  inside = omega (arith, long, round_length start buffer)

  -- a byte of the ring that was written is one of the bytes written round
  read : (i : ℕ) → i < 32768 → get_or after ((start + i) % 32768) 0 ≡ get_or (written round at bytes) i 0
  read i l =
      let size = ring_length buffer start at bytes (omega (arith, long)) (omega (arith, long)) ∙ long in
      sym (round_stands after start i size s l) ∙ ap (λ (r : List ℕ). get_or r i 0) (ring_read buffer start at bytes (omega (arith, long)) (omega (arith, long)))

  pub round_arrives : (k : ℕ) → k < length bytes → get_or after ((start + (at + k)) % 32768) 0 ≡ get_or bytes k 0
  round_arrives k l = read (at + k) (omega arith) ∙ written_there round at bytes inside k l

  pub round_keeps : (i : ℕ) → i < 32768 → (i < at) ⊎ (at + length bytes ≤ i) → get_or after ((start + i) % 32768) 0 ≡ get_or buffer ((start + i) % 32768) 0
  round_keeps i l outside =
      read i l ∙ ⊎_elim (kept_before round at bytes inside i) (kept_behind round at bytes inside i) outside
      ∙ round_stands buffer start i long s l
