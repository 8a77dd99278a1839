-- The file is read, and the terms under its table's front.
use Rattle.std.proofs.lemmas.Result.{err_from_is_err_and}
use native.Mathlib.Omega.{arith}
use Rattle.inputs.proofs.InputLaws.{book-fault, book-read}
use Rattle.inputs.proofs.read_inputs.Goals as goal

pub slice_bounds-read_terms-end : goal.slice_bounds-read_terms-end
slice_bounds-read_terms-end c =
    let b = rw c.in_ok-front.was at c.read_book.ensures in
    omega (arith, b.room, c.read_book.auto.table)

pub returns-in_err-front : goal.returns-in_err-front
returns-in_err-front c =
    let a = c.args in
    let error = err_from_is_err_and c.from_residual.result c.from_residual.ensures.1 in
    rw (error.1, error.2) (book-fault a.extent a.book.now a.left.now a.right.now _
    (rw c.in_err-front.was at c.read_book.ensures))

pub returns : goal.returns
returns c =
    let a = c.args in
    book-read a.extent a.book.now a.left.now a.right.now c.read_book.new.table _
    (rw c.in_ok-front.was at c.read_book.ensures) c.read_terms.result c.read_terms.ensures
