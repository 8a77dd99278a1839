-- The loop keeps: where a rule's words are stored, those up to i are renumbered and the variables in them have their
-- numbers; no more numbers are used than words are passed.
use mathlib.Core.Path.{ap}
use native.Mathlib.Omega.{arith}
use lib.ListN.{length}
use lib.Seq.{length-sets}
use Rattle.variables.proofs.PassLaws.{passing-none, passing-more, passing-done}
use Rattle.variables.proofs.renumber.Goals as goal

pub returns-then-words-end : goal.returns-then-words-end
returns-then-words-end c = λ old nodes e long room all.
    absurd (omega (arith, ap length e, length-sets old c.args.start nodes))

pub loop-i-init : goal.loop-i-init
loop-i-init c = record {
  few = omega arith;
  passing = λ old nodes e long room all. rw e (passing-none old nodes _ _ long room all);
}

pub loop-i-preserved : goal.loop-i-preserved
loop-i-preserved c = record {
  few = omega arith;
  passing = λ old nodes e long room all.
      passing-more (c.loop-i.invariant.passing old nodes e long room all) (omega arith) _ _ c.rename.ensures.by_index;
}

pub returns : goal.returns
returns c = λ old nodes e long room all.
    passing-done (c.loop-i.invariant.passing old nodes e long room all) (omega arith)
