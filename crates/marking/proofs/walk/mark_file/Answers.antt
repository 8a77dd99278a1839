-- What is read of the file is what is read after its head.
use Rattle.std.proofs.lemmas.Result.{err_from_is_err_and}
use Rattle.reader.specs.Source.{Reached}
use Rattle.marking.proofs.walk.mark_file.Goals as goal

pub returns-in_err-head : goal.returns-in_err-head
returns-in_err-head c =
    let error = err_from_is_err_and c.from_residual.result c.from_residual.ensures.1 in
    rw (error.1, error.2)
    (rw c.in_err-head.was at c.read_head.ensures)

pub mark_under-requires-clause-cursor_bound : goal.mark_under-requires-clause-cursor_bound
unfolding Reached
mark_under-requires-clause-cursor_bound c =
    let head = rw c.in_ok-head.was at c.read_head.ensures in head.within

pub returns : goal.returns
returns c =
    let head = rw c.in_ok-head.was at c.read_head.ensures in
    rw head.whole
    (rw c.front-front.ensures.0 at (c.mark_under.ensures head.form head.taken))
