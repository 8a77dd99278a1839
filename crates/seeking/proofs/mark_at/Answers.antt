-- The rule that was found there has that number in the file.
use Rattle.reader.specs.Source.{Reached}
use Rattle.seeking.proofs.OneLaws.{never-found, mark-found}
use Rattle.seeking.proofs.mark_at.Goals as goal

pub mark_there-requires-clause-cursor_bound : goal.mark_there-requires-clause-cursor_bound
mark_there-requires-clause-cursor_bound c = c.requires

pub returns-in-Err : goal.returns-in-Err
returns-in-Err c marked h =
    let a = c.args in
    never-found a.book.now marked a.at h _ _
    (rw c.in-Err.is at c.read_head.ensures)

pub returns-in-Ok : goal.returns-in-Ok
unfolding Reached
returns-in-Ok c marked h =
    let a = c.args in
    let head = rw c.in-Ok.is at c.read_head.ensures in
    mark-found a.book.now marked a.at h head.form head.taken _ _ _ _ head.whole head.within
    (rw c.front-front.ensures.0 at c.mark_there.ensures)
