-- The file is read, and the terms are listed under its table's front.
use Rattle.std.proofs.lemmas.Result.{err_from_is_err_and}
use Rattle.enumerating.proofs.ReplyLaws.{book-unlisted, book-listed}
use Rattle.enumerating.proofs.list.Goals as goal

pub returns-in_err-front : goal.returns-in_err-front
returns-in_err-front c =
    let error = err_from_is_err_and c.from_residual.result c.from_residual.ensures.1 in
    let both = book-unlisted c.args.book.now c.args.n c.args.words.now _ c.in_err-front.ensures in
    record { result_value = rw (error.1, error.2) both.0; words_after = both.1 }

pub returns : goal.returns
returns c =
    let both =
    book-listed c.args.book.now c.args.n _ _ c.in_ok-front.ensures c.args.words.now _ _
    (c.list_under.ensures.result_value, c.list_under.ensures.words_after)
    in record { result_value = both.0; words_after = both.1 }
