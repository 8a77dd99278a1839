-- The loop keeps: the sums over the words from i on, which are small, and those stored for the offsets from i on.
use Rattle.std.proofs.Common.{◌≡◌, ◌-◌, length, drop}
use Rattle.symbols.specs.Table.{signature_of}
use Rattle.weights.specs.Nodes.{SumsWithin}
use Rattle.weights.specs.Totals.{WordTotals}
use Rattle.measures.proofs.SumLaws.{AllFrom}
use Rattle.measures.proofs.sums.sum_up.Given as goal

abbrev pub invariant-loop-i : goal.invariant-loop-i
invariant-loop-i l =
    (length l.sums ≡ 129) × WordTotals (signature_of l.weighing.table.now) (drop l.i l.words) l.here
    × SumsWithin (length l.words - l.i) l.here × AllFrom (signature_of l.weighing.table.now) l.words l.sums l.i
