-- Each return is a case of the definition; the last one is the definition's own call, with one node fewer allowed.
use Prim.Native.Nat.{◌-◌}
use Rattle.words.proofs.+terms.Given as goal

abbrev pub decreases-terms : goal.decreases-terms
decreases-terms l = l.limit - l.at.now
