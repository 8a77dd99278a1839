-- The bits after those of the node move to the front.
use Rattle.bits.proofs.WindowLaws.{ahead_past}
use Rattle.bits.proofs.window.Window.past.Goals as goal

pub returns : goal.returns
returns c =
    λ bytes at h. ahead_past bytes at c.args.self h c.requires
