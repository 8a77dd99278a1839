-- The loop keeps: the total, with what the arities from `a` on add, is the count of rows once it is capped.
use Prim.Native.Nat.{suc, ◌+◌, ◌*◌, ◌-◌, ◌≤◌}
use mathlib.Core.Path.{◌≡◌}
use Rattle.terms.specs.Signature.{Signature}
use Rattle.enumerating.specs.Counts.{capped, row_count, ArityCounts, CellsTo}
use Rattle.enumerating.proofs.CountLaws.{sum_over}
use Rattle.enumerating.proofs.CellLaws.{summand}
use Rattle.enumerating.proofs.counts.row_count.Given as goal

abbrev pub invariant-loop-a : goal.invariant-loop-a
invariant-loop-a l =
    (l.total ≤ 65536)
    × ((σ : Signature) → ArityCounts σ l.counts → CellsTo σ (8 * l.nodes + 8) l.cells →
    capped (l.total + sum_over (summand σ l.nodes l.others) l.a (8 - l.a)) ≡ row_count σ (suc l.nodes) (suc l.others))
