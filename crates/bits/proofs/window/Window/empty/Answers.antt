-- No bits are those of any bytes.
use Rattle.bits.proofs.WindowLaws.{ahead-empty}
use Rattle.bits.proofs.window.Window.empty.Goals as goal

pub returns : goal.returns
returns c = ahead-empty
