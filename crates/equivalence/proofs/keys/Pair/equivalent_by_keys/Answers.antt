-- Terms with different keys are not equivalent.
use mathlib.Core.Path.{◌∙◌}
use borrow.Author.Tests.{ne_eqb}
use Rattle.equivalence.proofs.PreparedLaws.{both-kept}
use Rattle.equivalence.proofs.AlikeLaws.{equivalent-keys}
use Rattle.equivalence.proofs.keys.Pair.equivalent_by_keys.Goals as goal

pub returns-else-self-i : goal.returns-else-self-i
returns-else-self-i c =
    ne_eqb _ _ c.if-self-i.false
    ∙ equivalent-keys (both-kept c.args.self.now.both_prepared) c.args.i c.args.j c.requires.i_in_bounds.0
    c.requires.i_in_bounds.1 c.if-self-i.false
