-- What is read of the file is what is read after its head.
use Rattle.reader.specs.Source.{Reached}
use Rattle.seeking.proofs.FindLaws.{file-unread, file-read}
use Rattle.seeking.proofs.find_next.Goals as goal

pub find_after-requires-clause-cursor_bound : goal.find_after-requires-clause-cursor_bound
unfolding Reached
find_after-requires-clause-cursor_bound c =
    let head = rw c.in-Ok.is at c.read_head.ensures in head.within

pub returns-in-Err : goal.returns-in-Err
returns-in-Err c =
    let a = c.args in
    file-unread a.book.now a.marked _ _
    (rw c.in-Err.is at c.read_head.ensures)

pub returns-in-Ok : goal.returns-in-Ok
returns-in-Ok c =
    let a = c.args in
    let head = rw c.in-Ok.is at c.read_head.ensures in
    file-read a.book.now a.marked _ _ head.whole
    (rw c.front-front.ensures.0 at (c.find_after.ensures head.form head.taken))
