-- The loop keeps: the first from x on is the first of all.
use mathlib.Core.Path.{◌≡◌}
use Prim.Native.Nat.{◌-◌}
use Rattle.terms.specs.Term.{variable_count}
use Rattle.scaling.specs.Scaled.{more_from}
use Rattle.scaling.proofs.parts.first_more.Given as goal

abbrev pub invariant-loop-x : goal.invariant-loop-x
invariant-loop-x l =
    more_from l.left l.f l.right l.g l.x (variable_count - l.x) ≡ more_from l.left l.f l.right l.g 0 variable_count
