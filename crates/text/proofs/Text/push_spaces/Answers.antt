-- The loop keeps: so many spaces are pushed.
use Rattle.text.proofs.TextLaws.{pushed-space}
use Rattle.text.proofs.Text.push_spaces.Goals as goal

pub loop-i-preserved : goal.loop-i-preserved
loop-i-preserved c = pushed-space c.loop-i._i c.loop-i.invariant c.push_byte.ensures
