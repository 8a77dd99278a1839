-- The inputs are read, and the terms up to their ends are compared under the table's front.
use Rattle.comparing.proofs.CompareLaws.{ends-related}
use Rattle.comparing.proofs.relate.Goals as goal

pub returns : goal.returns
returns c = ends-related _ _ _ _ _ _ c.in_ok-ends.was c.read_inputs.ensures _ c.compare_read.ensures
