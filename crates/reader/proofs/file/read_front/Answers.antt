-- The form is tested, and what follows is read.
use Rattle.std.proofs.lemmas.Result.{err_from_is_err_and}
use mathlib.Core.Path.{sym, ◌∙◌}
use borrow.Author.Tests.{le-leb}
use Rattle.format.specs.Layout.{max_bytes}
use Rattle.reader.specs.Source.{input_of, read_source}
use Rattle.reader.proofs.SourceLaws.{source-short, reached-start, reached-field, form-stands}
use Rattle.reader.proofs.FileLaws.{read-parts}
use Rattle.reader.proofs.file.read_front.Goals as goal

pub returns-in_err-read : goal.returns-in_err-read
unfolding read_source
returns-in_err-read c =
    let a = c.args in
    let short = le-leb _ max_bytes (source-short a.source) in
    let form = sym (rw c.in_err-read.was at c.field.ensures.result_value) in
    let error = err_from_is_err_and c.from_residual.result c.from_residual.ensures.1 in
    rw (error.1, error.2, short) (read-parts a.form.number (input_of a.source) ∙ rw form)

pub returns-then-not-is_taken : goal.returns-then-not-is_taken
unfolding read_source
returns-then-not-is_taken c =
    let a = c.args in
    let short = le-leb _ max_bytes (source-short a.source) in
    let form = sym (rw c.in_ok-read.was at c.field.ensures.result_value) in
    let refused = sym c.is_taken.ensures ∙ c.if-not-is_taken.true in
    rw short (read-parts a.form.number (input_of a.source)
    ∙ rw (form, refused, c.form_error-code.ensures))

pub read_counts-requires : goal.read_counts-requires
unfolding read_source
read_counts-requires c =
    let a = c.args in
    let form = sym (rw c.in_ok-read.was at c.field.ensures.result_value) in
    let start = reached-start (input_of a.source) in
    let taken = sym c.is_taken.ensures ∙ c.if-not-is_taken.false in record {
      reached = reached-field (input_of a.source) 0 4 _ _ _ start form;
      room = c.requires;
      sheet_value = form-stands (input_of a.source) 4 _ _ form;
    }

pub returns : goal.returns
unfolding read_source
returns c =
    let a = c.args in
    let short = le-leb _ max_bytes (source-short a.source) in
    let form = sym (rw c.in_ok-read.was at c.field.ensures.result_value) in
    let taken = sym c.is_taken.ensures ∙ c.if-not-is_taken.false in
    rw (short, read-parts a.form.number (input_of a.source), form, taken)
    (c.read_counts.ensures a.form.number taken)
