-- The loop keeps: what is stored for the words before u is what they count, and the others are as they were.
use mathlib.Core.Path.{◌≡◌}
use lib.ListN.{length}
use Rattle.symbols.specs.Table.{signature_of}
use Rattle.scaling.specs.Scaled.{Ranged}
use Rattle.scaling.proofs.rows.put_range.Given as goal

abbrev pub invariant-loop-u : goal.invariant-loop-u
invariant-loop-u l =
    (length l.rows ≡ 272) × Ranged (signature_of l.table) l.from l.u l.initial.rows l.rows
