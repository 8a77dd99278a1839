-- A node of f is opened; an element that the lowest bit of the mask does not take is passed over. The offset rises.
use Prim.Native.Nat.{◌-◌}
use lib.ListN.{length}
use Rattle.symbols.specs.Table.{signature_of}
use Rattle.pieces.proofs.PutLaws.{Walking}
use Rattle.pieces.proofs.elements.first_taken.Given as goal

abbrev pub invariant-walk : goal.invariant-walk
invariant-walk l = Walking (signature_of l.term.table.now) l.f l.term.words.now l.i l.mask l.at l.left

abbrev pub decreases-walk : goal.decreases-walk
decreases-walk l = length l.term.words.now - l.at
