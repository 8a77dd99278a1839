-- The loop keeps: the total, with what the arities from `a` on add, is the count of rows once it is capped.
use Prim.Native.Nat.{◌+◌, ◌*◌, ◌≤◌}
use mathlib.Core.Path.{◌≡◌, sym, ◌∙◌}
use lib.ListN.{get_or}
use native.Mathlib.Nat.{mul-le-mul}
use Rattle.enumerating.specs.Counts.{capped}
use Rattle.enumerating.proofs.CountLaws.{capped-sum}
use native.Mathlib.Omega.{arith}
use Rattle.enumerating.proofs.CellLaws.{row-begun, row_step, row-end}
use Rattle.enumerating.proofs.counts.row_count.Goals as goal

pub loop-a-init : goal.loop-a-init
loop-a-init c = (omega arith, λ σ k t. row-begun σ c.args.nodes c.args.others c.requires.0)

pub overflow_add-total : goal.overflow_add-total
overflow_add-total c =
    let m : c.from.result ≤ 4294967295 = omega (arith, c.fits-counts c.loop-a.a) in
    let n : c.from-in-loop-a.result ≤ 4294967295 = omega arith in
    omega (arith, mul-le-mul m n)

pub loop-a-preserved : goal.loop-a-preserved
loop-a-preserved c =
    let a = c.args in
    let v = c.loop-a in
    let count = get_or a.counts.now v.a 0 in
    let rows = c.cell_at-rows.result in
    let m = rw (c.from.ensures, c.from-in-loop-a.ensures) at c.min-total.ensures in
    let e : c.min-total.result ≡ capped (v.total + count * rows) = omega arith in (
      omega arith,
      λ σ k t. row_step σ a.nodes a.others v.total v.a count rows c.min-total.result (omega arith)
          (k v.a (omega arith)) (c.cell_at-rows.ensures σ (8 * a.nodes + 8) t (omega arith))
          (e ∙ sym (capped-sum v.total (count * rows))) ∙ v.invariant.1 σ k t,
    )

pub returns : goal.returns
returns c =
    λ σ k t. row-end σ c.args.nodes c.args.others c.loop-a.total c.loop-a.a (omega arith) c.loop-a.invariant.0
    (c.loop-a.invariant.1 σ k t)
