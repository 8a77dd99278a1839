-- The symbols are stored, then the variables; of a symbol that the table lacks all is 0.
use Prim.Native.Nat.{◌≤◌}
use native.Mathlib.Omega.{arith}
use lib.ListN.{length}
use Rattle.terms.specs.Words.{first_variable}
use Rattle.symbols.specs.Table.{signature_of}
use Rattle.symbols.proofs.TableLaws.{full_at}
use Rattle.scaling.proofs.RowLaws.{node-rows}
use Rattle.scaling.proofs.rows.put_node_rows.Goals as goal

pub returns : goal.returns
returns c =
    let t = c.args.table.now in
    let (few, _) = c.count.ensures in
    let n = c.count.ensures in
    let small : length (signature_of t).symbols ≤ first_variable = omega (arith, n) in
    let (_, z, A) = c.requires in
    node-rows (signature_of t)
    (record { few = small; full = full_at t; positive = A.coefficients_positive })
    c.put_range.new.rows c.put_range-2.new.rows
    (rw (few, z) at c.put_range.ensures.0) c.put_range-2.ensures.0
