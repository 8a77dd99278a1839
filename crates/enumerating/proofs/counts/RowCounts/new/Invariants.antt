-- Without constants no other cell counts a row. Else the loop keeps: the cells before `i` are the counts of rows.
use mathlib.Core.Path.{◌≡◌}
use lib.ListN.{length}
use Rattle.symbols.specs.Table.{signature_of}
use Rattle.enumerating.specs.Counts.{CellsTo}
use Rattle.enumerating.proofs.counts.RowCounts.new.Given as goal

abbrev pub invariant-loop-i : goal.invariant-loop-i
invariant-loop-i l = (length l.cells ≡ 64) × CellsTo (signature_of l.table) l.i l.cells
