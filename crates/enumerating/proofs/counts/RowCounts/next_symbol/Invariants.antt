-- The loop keeps: the next symbol from `f` on is the one from the start on.
use Prim.Native.Nat.{◌-◌}
use mathlib.Core.Path.{◌≡◌}
use Rattle.symbols.specs.Table.{signature_of}
use Rattle.enumerating.specs.Rows.{next_from, count_of}
use Rattle.enumerating.proofs.counts.RowCounts.next_symbol.Given as goal

abbrev pub invariant-loop-f : goal.invariant-loop-f
invariant-loop-f l =
    next_from (signature_of l.self.table.now) l.nodes l.others l.from (count_of (signature_of l.self.table.now) - l.from)
    ≡ next_from (signature_of l.self.table.now) l.nodes l.others l.f (count_of (signature_of l.self.table.now) - l.f)
