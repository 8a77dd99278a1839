-- The loop keeps: the products that are pushed, with those for the digits that are left, are all of them.
use mathlib.Core.Path.{◌≡◌, ◌∙◌}
use Prim.Native.Nat.{suc, ◌+◌, ◌-◌}
use native.Mathlib.Omega.{arith}
use lib.ListN.{length-set}
use Rattle.scaling.specs.Scaled.{listed}
use Rattle.scaling.proofs.StackLaws.{push-more, push-none}
use Rattle.scaling.proofs.scan.push.Goals as goal

pub loop-end-preserved : goal.loop-end-preserved
loop-end-preserved c =
    let a = c.args in
    let l = c.loop-end in
    let left = a.top + a.count - (l.end + 1) in
    let e : a.top + a.count - l.end ≡ suc left = omega arith in (
      simp length-set l.invariant.0,
      push-more a.m left l.digits l.products l.end _ (omega (arith, l.invariant.0, c.requires.1)) c.cut.ensures
          ∙ (rw e at l.invariant.1),
    )

pub returns-clause-pushed : goal.returns-clause-pushed
returns-clause-pushed c =
    let a = c.args in
    let l = c.loop-end in
    let z : l.end ≡ a.top + a.count = omega arith in
    rw (← z)
    (push-none a.m l.digits (a.top + a.count - l.end) (listed l.products l.end) (omega arith) ∙ l.invariant.1)
