-- The root's product is stored first.
use mathlib.Core.Path.{refl}
use Rattle.scaling.specs.Scaled.{listed}
use Rattle.scaling.proofs.scan.Scan.new.Goals as goal

pub returns : goal.returns
unfolding listed
returns c = (refl, refl)
