-- The loop keeps: what was kept, and what cancelling what is ahead leaves, is what cancelling all leaves.
use Rattle.equivalence.proofs.CancelLaws.{Cancelling}
use Rattle.equivalence.proofs.keys.Pair.cancel.Given as goal

abbrev pub invariant-loop-k : goal.invariant-loop-k
invariant-loop-k l =
    Cancelling l.self.left.table.now l.self.left.words.now l.self.right.words.now l.fn.left.bytes l.fn.left.count
    l.fn.right.bytes l.fn.right.count l.left.bytes l.right.bytes l.k l.right.count l.left.count
