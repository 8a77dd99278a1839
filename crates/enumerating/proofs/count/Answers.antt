-- The file is read, and the terms are counted under its table's front.
use Rattle.std.proofs.lemmas.Result.{err_from_is_err_and}
use Rattle.enumerating.proofs.ReplyLaws.{book-refused, book-counted}
use Rattle.enumerating.proofs.count.Goals as goal

pub returns-in_err-front : goal.returns-in_err-front
returns-in_err-front c =
    let error = err_from_is_err_and c.from_residual.result c.from_residual.ensures.1 in
    rw (error.1, error.2) (book-refused c.args.book.now c.args.n _ c.in_err-front.ensures)

pub returns : goal.returns
returns c = book-counted c.args.book.now c.args.n _ _ c.in_ok-front.ensures _ c.count_under.ensures
