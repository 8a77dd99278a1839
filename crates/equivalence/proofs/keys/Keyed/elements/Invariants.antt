-- The loop keeps: the elements listed, with those of the terms ahead, are the elements of all. A node of f is opened,
-- any other is an element.
use Prim.Native.Nat.{◌-◌}
use lib.ListN.{length}
use Rattle.equivalence.proofs.ElementLaws.{Listing}
use Rattle.equivalence.proofs.keys.Keyed.elements.Given as goal

abbrev pub invariant-loop-owed : goal.invariant-loop-owed
invariant-loop-owed l =
    Listing l.self.table.now l.f l.self.words.now l.i l.n l.offsets.bytes l.at l.owed l.offsets.count

abbrev pub decreases-loop-owed : goal.decreases-loop-owed
decreases-loop-owed l = length l.self.words.now - l.at
