-- Each return is a case of the definition; the last one is the definition's own call, with one node fewer allowed.
use Prim.Native.Nat.{◌-◌}
use Rattle.sides.proofs.+read_terms.Given as goal

abbrev pub decreases-read_terms : goal.decreases-read_terms
decreases-read_terms l = 128 - l.count.now
