-- A line is written word by word, each with the byte behind it, from the front of the buffer on.
use mathlib.Core.Path.{◌≡◌, ap, ◌∙◌}
use mathlib.Core.List.{List, [], ◌∷◌, ◌++◌, append_assoc}
use Prim.Native.Nat.{ℕ, ◌+◌, ◌≤◌}
use native.Mathlib.Omega.{arith}
use lib.ListN.{length, length-append}
use Rattle.lent.specs.Written.{written}
use Rattle.lent.proofs.Written.{written_append}
use Rattle.header.specs.declared.FrameKind.{FrameKind}
use Rattle.listing_lines.specs.Lines.{decimal, kind_word, ascii, accepted_line, refused_line}

-- a word and the byte behind it
abbrev pub followed : List ℕ → ℕ → List ℕ
followed word behind = word ++ (behind ∷ [])

-- the text so far stands at the front of the buffer, and the index is behind it
pub record Wrote (before text after : List ℕ) (at : ℕ) : Type 0 where
  pub bytes : after ≡ written before 0 text
  pub index : at ≡ length text

module _ (before word : List ℕ) (behind : ℕ) where
  pub first_word : (after : List ℕ) (at : ℕ) → after ≡ written before 0 (followed word behind) → at ≡ 0 + length word + 1
      → Wrote before (followed word behind) after at
  first_word after at e i = record { bytes = e; index = rw length-append (omega arith) }

  pub next_word : (text now after : List ℕ) (at end : ℕ) → Wrote before text now at → at + length word + 1 ≤ length before
      → after ≡ written now at (followed word behind) → end ≡ at + length word + 1 → Wrote before (text ++ followed word behind) after end
  next_word text now after at end w room e i =
      let part = followed word behind in
      let long : length part ≡ length word + 1 = rw length-append (omega arith) in
      let here : at ≡ 0 + length text = omega (arith, w.index) in
      record {
        bytes = e ∙ rw (w.bytes, here) (written_append before 0 text part (omega arith));
        index = rw length-append (omega (arith, w.index));
      }

pub accepted_words : (place txfn : ℕ) (kind : FrameKind) (missed packets : ℕ)
    → followed (decimal place) 32 ++ followed (decimal txfn) 32 ++ followed (kind_word kind) 32 ++ followed (decimal missed) 32 ++ followed (decimal packets) 10
    ≡ accepted_line place txfn kind missed packets
unfolding accepted_line
accepted_words place txfn kind missed packets = simp append_assoc

pub refused_words : (place number : ℕ) → followed (decimal place) 32 ++ followed (ascii "refused") 32 ++ followed (decimal number) 10 ≡ refused_line place number
unfolding refused_line
refused_words place number = simp append_assoc

-- the line is whole
pub whole_line : (before text line after : List ℕ) (at : ℕ) → Wrote before text after at → text ≡ line → (at ≡ length line) × (after ≡ written before 0 line)
whole_line before text line after at w e = (w.index ∙ ap length e, w.bytes ∙ ap (written before 0) e)
