-- The field is read, and the test is the definition's.
use Rattle.std.proofs.lemmas.Result.{err_from_is_err_and}
use mathlib.Core.Path.{sym}
use borrow.Author.Tests.{lt-leb, le-leb}
use lib.Dec.{leb}
use Rattle.format.specs.Errors.{number_of}
use Rattle.reader.specs.Source.{input_of, source_of}
use Rattle.reader.proofs.SourceLaws.{tested-fault, tested-less, tested-got}
use Rattle.reader.proofs.field.field_at_least.Goals as goal

pub returns-in_err-value-clause-result_value : goal.returns-in_err-value-clause-result_value
returns-in_err-value-clause-result_value c =
    let a = c.args in
    let error = err_from_is_err_and c.from_residual.result c.from_residual.ensures.1 in
    rw (error.1, error.2) (sym (tested-fault (source_of (input_of a.source)) a.width (leb a.least)
    (number_of a.code) a.cursor.at _ _ (sym (rw c.in_err-value.was at c.field.ensures.result_value))))

pub returns-then-value-least-clause-result_value : goal.returns-then-value-least-clause-result_value
returns-then-value-least-clause-result_value c =
    let a = c.args in
    sym (tested-less (source_of (input_of a.source)) a.width (leb a.least) (number_of a.code)
    a.cursor.at _ _ (sym (rw c.in_ok-value.was at c.field.ensures.result_value))
    (lt-leb _ _ c.if-value-least.true))

pub returns-clause-result_value : goal.returns-clause-result_value
returns-clause-result_value c =
    let a = c.args in
    sym (tested-got (source_of (input_of a.source)) a.width (leb a.least) (number_of a.code)
    a.cursor.at _ _ (sym (rw c.in_ok-value.was at c.field.ensures.result_value))
    (le-leb _ _ c.if-value-least.false))
