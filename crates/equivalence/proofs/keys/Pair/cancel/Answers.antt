-- The loop keeps: what was kept, and what cancelling what is ahead leaves, is what cancelling all leaves.
use native.Mathlib.Omega.{arith}
use mathlib.Core.Path.{refl}
use Rattle.equivalence.proofs.CancelLaws.{cancelling-kept, cancelling-spent}
use Rattle.equivalence.proofs.keys.Pair.cancel.Goals.{in-Some, in-None}
use Rattle.equivalence.proofs.keys.Pair.cancel.Goals as goal

pub loop-k-preserved : goal.loop-k-preserved
loop-k-preserved c =
    let g = c.loop-k.invariant in
    elim c.match-partner.branch [
      | in-Some w ↦
          let p = w.in-Some.ensures in
          let d = w.delete.ensures.count_after in
          rw (w.left-is, w.right-is, d)
          (cancelling-spent g (omega arith) p.1 _ (λ e. omega (arith, p.0)) (rw d at w.delete.ensures.offsets_after)
          (omega arith))
      | in-None w ↦
          rw (w.left-is, w.right-is, w.push.ensures.bytes_after, w.push.ensures.count_after)
          (cancelling-kept g (omega arith) w.in-None.ensures refl)
    ]
