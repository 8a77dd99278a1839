-- Without constants no other cell counts a row. Else the loop keeps: the cells before `i` are the counts of rows.
use mathlib.Core.Path.{◌≡◌, refl}
use lib.ListN.{length-set}
use native.Mathlib.Omega.{arith}
use Rattle.symbols.specs.Table.{signature_of}
use Rattle.enumerating.proofs.CellLaws.{cells-none, cells-more}
use Rattle.enumerating.proofs.counts.RowCounts.new.Goals as goal

pub invariant_of-result-clause-counted : goal.invariant_of-result-clause-counted
invariant_of-result-clause-counted c =
    cells-none (signature_of c.args.table.now) (omega (arith, c.arity_counts-counts.ensures 0 (omega arith)))

pub loop-i-init : goal.loop-i-init
loop-i-init c = (refl, λ nodes terms few below. absurd (omega arith))

pub loop-i-preserved : goal.loop-i-preserved
loop-i-preserved c =
    let σ = signature_of c.args.table.now in
    let v = c.loop-i in (
      simp length-set v.invariant.0,
      cells-more σ v.cells v.i c.next_cell.result v.invariant.1 (omega (arith, v.invariant.0))
          (c.next_cell.ensures σ c.arity_counts-counts.ensures v.invariant.1),
    )

pub invariant_of-result-2-clause-counted : goal.invariant_of-result-2-clause-counted
invariant_of-result-2-clause-counted c =
    let e : c.loop-i.i ≡ 64 = omega arith in rw e at c.loop-i.invariant.1
