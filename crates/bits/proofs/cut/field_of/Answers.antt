-- The shift and the remainder are those that spell the field.
use Prim.Native.Nat.{◌-◌, ◌/◌, ◌%◌, ◌^◌}
use native.Mathlib.Omega.{arith}
use lib.Pow.{pow_pos}
use Rattle.format.proofs.PackingLaws.{one_shl}
use Rattle.bits.proofs.BitLaws.{rest-fits}
use Rattle.bits.proofs.cut.field_of.Goals as goal

pub nonzero_rem-value-2 : goal.nonzero_rem-value-2
nonzero_rem-value-2 c = rw (one_shl 32 c.args.width (omega arith)) (pow_pos c.args.width)

pub overflow_cast-value-3 : goal.overflow_cast-value-3
overflow_cast-value-3 c =
    let a = c.args in
    let small = rest-fits (a.three / 2 ^ (24 - a.at % 8 - a.width)) a.width (omega arith) in
    record { fits = rw (one_shl 32 a.width (omega arith)) (omega (arith, small)) }

pub returns : goal.returns
returns c = rw (one_shl 32 c.args.width (omega arith))
