-- The loop keeps: the first k elements are split by their roots.
use Rattle.std.proofs.Common.{◌≡◌}
use Rattle.extensions.proofs.SplitLaws.{Splitting}
use Rattle.extensions.proofs.parts.Parts.list.Given as goal

abbrev pub invariant-loop-k : goal.invariant-loop-k
invariant-loop-k l =
    (l.self.all ≡ l.elements.count)
    × Splitting l.term.table.now l.f l.term.words.now l.elements.bytes l.self.above.bytes l.self.below.bytes
    l.self.variables.bytes l.k l.self.above.count l.self.below.count l.self.variables.count
