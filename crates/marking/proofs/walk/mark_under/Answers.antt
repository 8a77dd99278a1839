-- The rules are listed by the walk over them; where the file may end after them, they are those of the whole file.
use mathlib.Core.Path.{sym, ◌∙◌}
use Rattle.std.proofs.lemmas.Result.{err_from_is_err_and}
use Rattle.format.specs.Layout.{form_number}
use Rattle.format.specs.Reading.{bit_source}
use Rattle.format.specs.Forms.{unused_of}
use Rattle.symbols.specs.Table.{signature_of}
use Rattle.format.proofs.FormatLaws.{rules-length}
use Rattle.reader.specs.Source.{source_of}
use Rattle.reader.specs.Source.Input.{from_bytes}
use Rattle.reader.proofs.FileLaws.{rest-unread, rest-unended, rest_ended}
use Rattle.marking.proofs.WalkLaws.{marked-as}
use Rattle.marking.proofs.walk.mark_under.Goals as goal

pub returns-in_err-decreasing : goal.returns-in_err-decreasing
unfolding source_of
returns-in_err-decreasing c form taken =
    let a = c.args in
    let error = err_from_is_err_and c.from_residual.result c.from_residual.ensures.1 in
    rw (error.1, error.2)
    (rest-unread form_number form taken (from_bytes a.book.bytes.now) (signature_of a.table.now) a.count a.cursor.at _ _
    (rw c.in_err-decreasing.was at c.mark_rules.ensures.all_marked))

pub returns-then-not-is_padding : goal.returns-then-not-is_padding
unfolding source_of
returns-then-not-is_padding c form taken =
    let a = c.args in
    let read = rw c.in_ok-decreasing.was at c.mark_rules.ensures.all_marked in
    rest-unended form_number form taken (from_bytes a.book.bytes.now) (signature_of a.table.now) a.count a.cursor.at
    read.0 _ read.1 _ _ (rw (sym c.is_padding.ensures ∙ c.if-not-is_padding.true))

pub returns : goal.returns
unfolding source_of
returns c form taken =
    let a = c.args in
    let σ = signature_of a.table.now in
    let read = rw c.in_ok-decreasing.was at c.mark_rules.ensures.all_marked in
    let within = rw c.in_ok-decreasing.was at c.mark_rules.ensures.within in
    let long = rules-length (bit_source a.book.bytes.now) (unused_of form_number) σ a.count a.cursor.at read.0 _ read.1
    in (
      _,
      _,
      rest_ended form_number form taken (from_bytes a.book.bytes.now) σ a.count a.cursor.at read.0 _ read.1
          c.in_ok-decreasing.end.at (rw (sym c.is_padding.ensures ∙ c.if-not-is_padding.false)),
      marked-as form σ read.0 a.count _ _ _ _ _ long c.requires.table.1 within.0 read.2,
    )
