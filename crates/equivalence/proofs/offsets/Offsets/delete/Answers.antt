-- What comes after the index moves down by one, and the last offset is no longer counted.
use native.Mathlib.Omega.{arith}
use Rattle.equivalence.proofs.OffsetLaws.{delete-moved}
use Rattle.equivalence.proofs.offsets.Offsets.delete.Goals as goal

pub returns-clause-offsets_after : goal.returns-clause-offsets_after
returns-clause-offsets_after c =
    delete-moved c.args.self.now.bytes _ c.args.k c.args.self.now.count c.requires (omega arith) c.copy_within.ensures.after
