-- The square of a number of 32 bits has 64.
use native.Mathlib.Omega.{arith}
use native.Mathlib.Nat.{mul-le-mul}
use mathlib.Core.Path.{refl}
use Prim.Native.Nat.{◌≤◌}
use Rattle.equivalence.specs.Keys.{middle_square}
use Rattle.equivalence.proofs.keys.middle_square.Goals as goal

pub overflow_mul-result : goal.overflow_mul-result
unfolding middle_square
overflow_mul-result c =
    let x = c.args.x in
    let h : x ≤ 4294967295 = omega arith in
    omega (arith, mul-le-mul h h)

pub returns : goal.returns
unfolding middle_square
returns c = (refl, omega arith)
