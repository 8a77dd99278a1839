-- The loop keeps: the sums over the words before the one at hand, which are small.
use lib.ListN.{take}
use Rattle.symbols.specs.Table.{signature_of}
use Rattle.weights.specs.Nodes.{SumsWithin}
use Rattle.weights.specs.Totals.{WordTotals}
use Rattle.weights.proofs.nodes.Weighing.total.Given as goal

abbrev pub invariant-loop-word : goal.invariant-loop-word
invariant-loop-word l =
    WordTotals (signature_of l.self.table.now) (take l.word-index l.words) l.here × SumsWithin l.word-index l.here
