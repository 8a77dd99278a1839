-- The instance's words, and those of the term that the part does not have.
use native.Mathlib.Omega.{arith}
use Rattle.equivalence.proofs.PreparedLaws.{prepared-kept}
use Rattle.pieces.proofs.ResultLaws.{part-fits, result-size}
use Rattle.pieces.proofs.results.result_size.Goals as goal

pub overflow_sub-result : goal.overflow_sub-result
overflow_sub-result c =
    omega (arith, part-fits (prepared-kept c.args.term.now.prepared) c.requires c.size_at.ensures.0)

pub returns : goal.returns
returns c =
    result-size (prepared-kept c.args.term.now.prepared) c.requires c.size_at.ensures.0 _ c.instance_size.ensures.value
