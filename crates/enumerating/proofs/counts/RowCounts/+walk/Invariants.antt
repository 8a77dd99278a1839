-- A complete row is stored, and rows that are stored already are copied. Else the loop keeps: storing the rows of the
-- symbols from a number on at `end` gives what storing all of them gives, and the blocks end by `end`.
use lib.ListN.{length}
use Prim.Native.Nat.{◌-◌}
use Rattle.symbols.specs.Table.{signature_of}
use Rattle.enumerating.specs.Rows.{count_of}
use Rattle.enumerating.proofs.WalkLaws.{Walks}
use Rattle.enumerating.proofs.counts.RowCounts.+walk.Given as goal

abbrev pub decreases-walk : goal.decreases-walk
decreases-walk l = l.nodes

abbrev pub invariant-loop-f : goal.invariant-loop-f
invariant-loop-f l =
    Walks (signature_of l.self.table.now) l.nodes l.terms l.initial.row (length l.initial.row) l.initial.out l.at l.from
    l.end l.blocks l.row l.out

abbrev pub decreases-loop-f : goal.decreases-loop-f
decreases-loop-f l = count_of (signature_of l.self.table.now) - l.from
