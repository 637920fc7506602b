-- Bit by bit of a: the sum so far, and what the bits left make of the doubled bytes, together stay the product (`product_turn`).
use mathlib.Core.Path.{◌≡◌}
use Prim.Native.Nat.{◌-◌, ◌<◌, ◌^◌}
use lib.Bits.{bit_xor}
use Rattle.field.specs.Field.{sum_over, times}
use Rattle.field.specs.EachByte.{each_byte}
use Rattle.field.proofs.lanes.multiplied.Given as goal

abbrev pub invariant-loop : goal.invariant-loop
invariant-loop g l =
    let m = g.L.Lanes in
    (m.number l.doubled < 256 ^ m.count)
    × (bit_xor (m.number l.sum) (each_byte (sum_over (8 - l.counter) l.bits) m.count (m.number l.doubled))
    ≡ each_byte (times l.fn.a) m.count (m.number l.fn.bytes))
