-- The loop keeps: the products that are pushed, with those for the digits that are left, are all of them.
use mathlib.Core.Path.{◌≡◌}
use Prim.Native.Nat.{◌+◌, ◌-◌}
use lib.ListN.{length}
use Rattle.scaling.specs.Scaled.{push_row, listed}
use Rattle.scaling.proofs.scan.push.Given as goal

abbrev pub invariant-loop-end : goal.invariant-loop-end
invariant-loop-end l =
    (length l.products ≡ 129)
    × (push_row l.m (l.top + l.count - l.end) l.digits (listed l.products l.end)
    ≡ push_row l.m l.count l.row (listed l.initial.products l.top))
