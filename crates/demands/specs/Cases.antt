-- The numbers that paper 01 marks p ("Numbers to try"), in one table: a definition, an input, and what the paper states. `cases_hold` in proofs/Cases.antt is
-- its proof, and `cases_cite` there says which definition each row is about, so that no row can be about nothing.
use Rattle.std.specs.Prelude.{true, false, ◌≡◌, ℕ, ◌+◌, pos, neg_ℤ}
use mathlib.Core.List.{List, [], ◌∷◌, foldr}
use Rattle.std.specs.Int.Count.{ones}
use Rattle.std.proofs.Math.Option.{none}
use Rattle.basics.specs.Lists.{zeros}
use Rattle.crc.specs.Crc.{crc_16, crc_32}
use Rattle.field.specs.Field.{power}
use Rattle.scrambler.specs.Scrambler.{scrambled}
use Rattle.fast_channel.specs.Level.{level_of}
use Rattle.header.specs.Header.{field_bytes}
use Rattle.header.specs.declared.Fields.{Fields}
use Rattle.header.specs.declared.Header.{Header}
use Rattle.header.specs.declared.FrameKind.TheVariants.{Idle, Data}
use Rattle.fast_channel.specs.declared.FastChannel.TheVariants.{Absent, Version}
use Rattle.frame.specs.Frame.{preamble}
use Rattle.sending.specs.Next.{area_for}

-- a definition, as a function of its input
pub record Definition : Type 1 where
  pub In : Type 0
  pub Out : Type 0
  pub of : In → Out

-- a row: a definition, an input, and what the paper states that the definition gives there
pub record Case : Type 1 where
  pub cited : Definition
  pub input : cited.In
  pub stated : cited.Out

module _ {In Out : Type 0} where
  abbrev pub definition : (In → Out) → Definition
  definition of = record { In = In; Out = Out; of = of }

  infix 80 ◌at◌gives◌
  abbrev pub ◌at◌gives◌ : (In → Out) → In → Out → Case
  of at input gives stated = record { cited = definition of; input = input; stated = stated }

-- every row is as the paper states
abbrev pub Hold : List Case → Type 0
Hold [] = Unit {0}
Hold (row ∷ rows) = (row.cited.of row.input ≡ row.stated) × Hold rows

-- what takes no input: the one bits of the preamble
abbrev pub preamble_ones : Unit {0} → ℕ
preamble_ones nothing = foldr (λ byte count. ones byte + count) 0 preamble

-- bytes scrambled, for all taps
abbrev pub under_taps : List ℕ → ℕ → List ℕ
under_taps bytes taps = scrambled taps bytes

-- IDLE, TXFN 1, all else 0, fast channel absent
abbrev nothing_told : Fields
nothing_told = record { rxfn = record { 0 = 0 }; ack = false; valid = false; stamp = 0; seconds = 0; applies = 0; message = Absent }

abbrev pub idle : Header
idle = record { txfn = record { 0 = 1 }; kind = Idle; fields = nothing_told }

-- DATA, TXFN hex 1234, RXFN hex FFFF, ACK and ACK-valid 1, TX_TS 1, seconds 59, TS-applies 3, version 2.1.2
abbrev version_told : Fields
version_told = record { rxfn = record { 0 = 0xFFFF }; ack = true; valid = true; stamp = 1; seconds = 59; applies = 3; message = Version 2 1 2 }

abbrev versioned : Header
versioned = record { txfn = record { 0 = 0x1234 }; kind = Data; fields = version_told }

unfoldable pub cases : List Case
cases =
    crc_16 at (0x01 ∷ []) gives 0x1021
    ∷ crc_32 at (0x01 ∷ []) gives 0x04C11DB7
    ∷ crc_16 at [] gives 0
    ∷ crc_32 at [] gives 0
    ∷ power at 8 gives 0x87
    ∷ power at 9 gives 0x89
    ∷ power at 254 gives 0xC3
    ∷ preamble_ones at tt gives 36
    -- bytes 0 to 2 of the scrambler, for all taps; byte 3 for taps 0 and 3, and for taps 0 and 1
    ∷ under_taps at (0 ∷ 0 ∷ 0 ∷ []) gives (λ taps. 0xE0 ∷ 0x00 ∷ 0x00 ∷ [])
    ∷ scrambled 9 at (0 ∷ 0 ∷ 0 ∷ 0 ∷ []) gives (0xE0 ∷ 0x00 ∷ 0x00 ∷ 0x70 ∷ [])
    ∷ scrambled 3 at (0 ∷ 0 ∷ 0 ∷ 0 ∷ []) gives (0xE0 ∷ 0x00 ∷ 0x00 ∷ 0x10 ∷ [])
    ∷ field_bytes at idle gives (0x01 ∷ 0x00 ∷ 0x00 ∷ 0x00 ∷ 0xF0 ∷ 0x00 ∷ 0x00
    ∷ 0x00 ∷ 0x00 ∷ 0x00 ∷ 0xC0 ∷ 0x8F ∷ 0xFF ∷ 0xFF ∷ [])
    ∷ field_bytes at versioned gives (0x34 ∷ 0x12 ∷ 0xFF ∷ 0xFF ∷ 0xFD ∷ 0x01 ∷ 0x00
    ∷ 0x00 ∷ 0x00 ∷ 0x00 ∷ 0xFB ∷ 0xB5 ∷ 0x42 ∷ 0x10 ∷ [])
    -- packet AA
    ∷ area_for at (record { rest = none; waiting = (0xAA ∷ []) ∷ [] }) gives (0xC0 ∷ 0x01 ∷ 0xAA ∷ zeros 1905)
    ∷ level_of at 255 gives neg_ℤ (pos 6396930)
    ∷ []
