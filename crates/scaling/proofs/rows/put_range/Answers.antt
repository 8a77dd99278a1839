-- The loop keeps: what is stored for the words before u is what they count, and the others are as they were.
use mathlib.Core.Path.{◌≡◌}
use native.Mathlib.Omega.{arith}
use lib.ListN.{length-set}
use Rattle.symbols.specs.Table.{signature_of}
use Rattle.scaling.proofs.RowLaws.{ranged-none, ranged-more}
use Rattle.scaling.proofs.rows.put_range.Goals as goal

pub loop-u-init : goal.loop-u-init
loop-u-init c =
    let a = c.args in (c.requires.2, ranged-none (signature_of a.table.now) a.from a.rows.now)

pub loop-u-preserved : goal.loop-u-preserved
loop-u-preserved c =
    let a = c.args in
    let l = c.loop-u in (
      simp length-set l.invariant.0,
      ranged-more (signature_of a.table.now) a.from l.u a.rows.now l.rows _ l.invariant.0 (omega arith) (omega arith)
          c.node_row.ensures l.invariant.1,
    )

pub returns : goal.returns
returns c =
    let l = c.loop-u in
    let e : l.u ≡ c.args.to = omega arith in
    (rw e at l.invariant.1, l.invariant.0)
