-- The loop keeps: the words counted, with those of the elements that are left, are those of the sum.
use Prim.Native.Nat.{◌-◌}
use lib.ListN.{length}
use Rattle.symbols.specs.Table.{signature_of}
use Rattle.pieces.proofs.PutLaws.{Counting}
use Rattle.pieces.proofs.sums.sum_size.Given as goal

abbrev pub invariant-loop-left : goal.invariant-loop-left
invariant-loop-left g l =
    Counting (signature_of l.term.table.now) l.f l.term.words.now l.i g.n l.mask l.at l.left
    l.count

abbrev pub decreases-loop-left : goal.decreases-loop-left
decreases-loop-left g l = length l.term.words.now - l.at
