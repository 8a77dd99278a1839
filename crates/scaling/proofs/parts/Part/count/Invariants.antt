-- The loop keeps: each count is that of the words from i to before k. It is below the limit, as the side's weight is.
use mathlib.Core.Path.{◌≡◌}
use lib.ListN.{length}
use Rattle.symbols.specs.Table.{signature_of}
use Rattle.scaling.proofs.CountLaws.{CountedTo}
use Rattle.scaling.proofs.parts.Part.count.Given as goal

abbrev pub invariant-loop-k : goal.invariant-loop-k
invariant-loop-k l =
    (length l.counts ≡ 16) × CountedTo (signature_of l.self.table.now) l.self.words.now l.self.start l.k l.counts
