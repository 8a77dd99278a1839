-- The bits that a - 1 has in common with the mask are less than a.
use mathlib.Core.Path.{refl}
use Prim.Native.Nat.{◌-◌}
use native.Mathlib.Omega.{arith}
use lib.Bits.{and_le_l}
use Rattle.pieces.proofs.masks.next_within.Goals as goal

pub returns : goal.returns
returns c = (refl, omega (arith, and_le_l (c.args.a - 1) c.args.mask))
