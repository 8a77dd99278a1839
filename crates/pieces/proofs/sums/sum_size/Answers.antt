-- The loop keeps: the words counted, with those of the elements that are left, are those of the sum.
use native.Mathlib.Omega.{arith}
use Rattle.equivalence.proofs.PreparedLaws.{prepared-kept}
use Rattle.pieces.proofs.PutLaws.{counting-more, counting-last, counting-done, counting-small}
use Rattle.pieces.proofs.sums.sum_size.Goals.{then-rest-gt0, else-rest-gt0}
use Rattle.pieces.proofs.sums.sum_size.Goals as goal

pub loop-left-preserved : goal.loop-left-preserved
loop-left-preserved g c =
    let P = prepared-kept c.args.term.now.prepared in
    let C = c.loop-left.invariant in
    let T = c.first_taken-offset.ensures C.owed C.terms in
    let d = c.size_at-size.ensures.0 in
    elim c.if-rest-gt0.branch [
      | then-rest-gt0 w ↦ rw w.count-is (counting-more C P T d w.if-rest-gt0.true)
      | else-rest-gt0 w ↦ rw w.count-is (counting-last C P T d (omega (arith, w.if-rest-gt0.false)))
    ]

pub returns-clause-value : goal.returns-clause-value
returns-clause-value g c = counting-done c.loop-left.invariant (omega arith)

pub returns-clause-upper_bound : goal.returns-clause-upper_bound
returns-clause-upper_bound g c = counting-small c.loop-left.invariant
