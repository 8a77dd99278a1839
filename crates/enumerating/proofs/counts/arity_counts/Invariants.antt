-- The loop keeps: each count, with the symbols from `f` on, is that of all symbols.
use mathlib.Core.Path.{◌≡◌}
use lib.ListN.{length}
use Rattle.symbols.specs.Table.{signature_of}
use Rattle.enumerating.proofs.CellLaws.{CountedTo}
use Rattle.enumerating.proofs.counts.arity_counts.Given as goal

abbrev pub invariant-loop-f : goal.invariant-loop-f
invariant-loop-f l =
    (length l.counts ≡ 8) × CountedTo (signature_of l.table) l.f l.counts
