-- Bit by bit of a: the sum so far, and what the bits left make of the doubled bytes, together stay the product (`product_turn`).
use mathlib.Core.Path.{◌≡◌, sym, ap₂, ◌∙◌, subst}
use Prim.Native.Nat.{ℕ, ◌<◌, ◌-◌, ◌/◌, ◌+◌, ◌^◌}
use native.Mathlib.Nat.{mod-lt}
use native.Mathlib.Omega.{arith}
use lib.Dec.{lit<}
use lib.Bits.{bit_xor}
use Rattle.field.specs.Field.{double, sum_over}
use Rattle.field.specs.EachByte.{each_byte}
use Rattle.field.proofs.Double.{double_lt}
use Rattle.field.proofs.EachByte.{each_lt, product_start, product_turn, product_end}
use Rattle.field.proofs.lanes.multiplied.Goals as goal

pub loop-init : goal.loop-init
loop-init g c =
    let m = g.L.Lanes in (c.requires, product_start m.count (m.number c.zeros-sum.result) c.args.a (m.number c.args.bytes) c.zeros-sum.ensures)

pub plus_if-sum-requires : goal.plus_if-sum-requires
plus_if-sum-requires g c = (mod-lt c.loop.bits (lit< tt), c.loop.invariant.0)

pub doubled-doubled-requires : goal.doubled-doubled-requires
doubled-doubled-requires g c = c.loop.invariant.0

pub loop-preserved : goal.loop-preserved
loop-preserved g c =
    let m = g.L.Lanes in
    let loop = c.loop in
    let more = c.doubled-doubled.ensures in
    let left : 8 - (loop.counter + 1) ≡ 8 - loop.counter - 1 = omega arith in (
      subst (λ (y : ℕ). y < 256 ^ m.count) (sym more) (each_lt double double_lt m.count (m.number loop.doubled)),
      ap₂ (λ (x y : ℕ). bit_xor x (each_byte (sum_over (8 - (loop.counter + 1)) (loop.bits / 2)) m.count y)) c.plus_if-sum.ensures more
          ∙ rw left (product_turn m.count (m.number loop.sum) loop.bits (m.number loop.doubled) (8 - loop.counter) loop.invariant.0 (omega arith))
          ∙ loop.invariant.1,
    )

pub returns : goal.returns
returns g c =
    let m = g.L.Lanes in
    let loop = c.loop in
    sym (product_end m.count (m.number loop.sum) loop.bits (m.number loop.doubled) (8 - loop.counter) (omega arith)) ∙ loop.invariant.1
