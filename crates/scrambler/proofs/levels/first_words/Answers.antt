-- Level by level: 25 numbers that follow the taps become 50, and 25 of twice the width.
use mathlib.Core.List.{List}
use Prim.Native.Nat.{ℕ}
use lib.Dec.{lit≤}
use Rattle.scrambler.specs.Scrambler.{key_byte}
use Rattle.scrambler.specs.Keys.{places_from, Holds, Extends, Paired}
use Rattle.scrambler.proofs.Follows.{level}
use Rattle.scrambler.proofs.Holds.{level_extends, level_paired, level_below, level_one}
use Rattle.scrambler.proofs.levels.first_words.Goals as goal

-- what each call to `extend` leaves: 50 numbers of one byte, of two, of four
module _ (taps : ℕ) {bytes ones : List ℕ} (start : Holds (key_byte taps) 25 bytes) (more : Extends 1 (places_from 25 0 taps) bytes ones) where
  one : Holds (level taps 1) 50 ones
  one = level_extends taps 0 more (level_one taps start)

  module _ {pairs twos : List ℕ} (paired : Paired 256 ones pairs) (more-2 : Extends 1 (places_from 25 0 taps) pairs twos) where
    two : Holds (level taps 2) 50 twos
    two = level_extends taps 1 more-2 (level_paired taps 1 paired one)

    module _ {pairs-2 fours : List ℕ} (paired-2 : Paired 65536 twos pairs-2) (more-3 : Extends 1 (places_from 25 0 taps) pairs-2 fours) where
      four : Holds (level taps 4) 50 fours
      four = level_extends taps 2 more-3 (level_paired taps 2 paired-2 two)

pub pair-requires : goal.pair-requires
pair-requires c =
    let taps = c.args.recurrence.now.taps in
    let ones = one taps c.first_bytes-numbers.ensures c.extend.ensures in
    (level_below taps 1 ones, lit≤ tt)

pub pair-requires-2 : goal.pair-requires-2
pair-requires-2 c =
    let taps = c.args.recurrence.now.taps in
    let twos = two taps c.first_bytes-numbers.ensures c.extend.ensures c.pair.ensures c.extend-2.ensures in
    (level_below taps 2 twos, lit≤ tt)

pub pair-requires-3 : goal.pair-requires-3
pair-requires-3 c =
    let taps = c.args.recurrence.now.taps in
    let fours = four taps c.first_bytes-numbers.ensures c.extend.ensures c.pair.ensures c.extend-2.ensures c.pair-2.ensures c.extend-3.ensures in
    (level_below taps 4 fours, lit≤ tt)

pub returns : goal.returns
returns c =
    let taps = c.args.recurrence.now.taps in
    let fours = four taps c.first_bytes-numbers.ensures c.extend.ensures c.pair.ensures c.extend-2.ensures c.pair-2.ensures c.extend-3.ensures in
    level_extends taps 3 c.extend-4.ensures (level_paired taps 4 c.pair-3.ensures fours)
