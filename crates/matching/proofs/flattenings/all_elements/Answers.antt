-- The elements are counted, and so many bits are set.
use Rattle.matching.proofs.SizeLaws.{one-stands}
use Rattle.matching.proofs.flattenings.all_elements.Goals as goal

pub elements-requires-clause-stands : goal.elements-requires-clause-stands
elements-requires-clause-stands c = one-stands c.requires.i_in_bounds.0
