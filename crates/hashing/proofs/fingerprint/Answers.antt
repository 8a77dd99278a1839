-- The file is read, and the term under its table's front.
use Rattle.std.proofs.lemmas.Result.{err_from_is_err_and}
use Rattle.hashing.proofs.ReplyLaws.{book-fault, book-hashed}
use Rattle.hashing.proofs.fingerprint.Goals as goal

pub returns-in_err-front : goal.returns-in_err-front
returns-in_err-front c =
    let a = c.args in
    let error = err_from_is_err_and c.from_residual.result c.from_residual.ensures.1 in
    rw (error.1, error.2) (book-fault a.book.now a.term.now _ (rw c.in_err-front.was at c.read_book.ensures))

pub returns : goal.returns
returns c =
    let a = c.args in
    let b = rw c.in_ok-front.was at c.read_book.ensures in
    book-hashed a.book.now a.term.now c.read_book.new.table _ b _ c.fingerprint_under.ensures
