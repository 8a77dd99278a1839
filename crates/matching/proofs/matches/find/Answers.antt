-- The part at the offset alone is pending, and no variable is bound.
use Rattle.matching.proofs.StartLaws.{start-found}
use Rattle.matching.proofs.matches.find.Goals as goal

pub returns : goal.returns
returns c =
    let r = c.push-pending.ensures.pending_after in
    start-found _ _ _ c.requires.i_in_bounds.0 c.push-pending.ensures.pushed _ _
    (rw (r.1, r.2) at c.follow.ensures.searched)
