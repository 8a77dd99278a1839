-- The three fields are read and tested in the order of the definition, and then the symbols.
use Rattle.std.proofs.lemmas.Result.{err_from_is_err_and}
use mathlib.Core.Path.{sym}
use lib.Dec.{leb}
use borrow.Author.Tests.{leb-true}
use Rattle.symbols.proofs.EntryLaws.{table-le}
use Rattle.reader.specs.Source.{input_of, source_of}
use Rattle.reader.specs.File.{counts_reader}
use Rattle.reader.proofs.SourceLaws.{tested-field, source-short, reached-field, w0-stands, room-le}
use Rattle.reader.proofs.FileLaws.{symbols-fault, both-stand, head_read}
use Rattle.reader.proofs.file.read_counts.Goals as goal

pub returns-in_err-symbols : goal.returns-in_err-symbols
unfolding counts_reader
returns-in_err-symbols c reader taken =
    let error = err_from_is_err_and c.from_residual.result c.from_residual.ensures.1 in
    rw (error.1, error.2, sym (rw c.in_err-symbols.was at c.field_at_least.ensures.result_value))

pub returns-in_err-w0 : goal.returns-in_err-w0
unfolding counts_reader
returns-in_err-w0 c reader taken =
    let count = sym (rw c.in_ok-symbols.was at c.field_at_least.ensures.result_value) in
    let w0 = sym (rw c.in_err-w0.was at c.field_at_least-2.ensures.result_value) in
    let error = err_from_is_err_and c.from_residual-in_err-w0.result c.from_residual-in_err-w0.ensures.1 in
    rw (error.1, error.2, count, w0)

pub returns-in_err-rules : goal.returns-in_err-rules
unfolding counts_reader
returns-in_err-rules c reader taken =
    let count = sym (rw c.in_ok-symbols.was at c.field_at_least.ensures.result_value) in
    let w0 = sym (rw c.in_ok-w0.was at c.field_at_least-2.ensures.result_value) in
    let rules = sym (rw c.in_err-rules.was at c.field.ensures.result_value) in
    let error = err_from_is_err_and c.from_residual-in_err-rules.result c.from_residual-in_err-rules.ensures.1 in
    rw (error.1, error.2, count, w0, rules)

pub read_table-requires : goal.read_table-requires
unfolding counts_reader
read_table-requires c =
    let a = c.args in
    let source = source_of (input_of a.source) in
    let count = tested-field source 8 (leb 1) 4 a.cursor.at _ _
    (sym (rw c.in_ok-symbols.was at c.field_at_least.ensures.result_value)) in
    let w0 = tested-field source 16 (leb 1) 5 _ _ _
    (sym (rw c.in_ok-w0.was at c.field_at_least-2.ensures.result_value)) in
    let rules = sym (rw c.in_ok-rules.was at c.field.ensures.result_value) in
    let reach = reached-field (input_of a.source) in
    let second = reach 1 8 _ _ _ c.requires.reached count.0 in
    let few = rw c.in_ok-symbols.was at c.field_at_least.ensures.below in record {
      room = room-le (input_of a.source) _ _ a.table.now (table-le _ few) c.requires.room;
      reached = reach 3 10 _ _ _ (reach 2 16 _ _ _ second w0.0) rules;
    }

pub returns-in_err-cursor : goal.returns-in_err-cursor
unfolding counts_reader
returns-in_err-cursor c reader taken =
    let a = c.args in
    let count = sym (rw c.in_ok-symbols.was at c.field_at_least.ensures.result_value) in
    let w0 = sym (rw c.in_ok-w0.was at c.field_at_least-2.ensures.result_value) in
    let rules = sym (rw c.in_ok-rules.was at c.field.ensures.result_value) in
    let error = err_from_is_err_and c.from_residual-in_err-cursor.result c.from_residual-in_err-cursor.ensures.1 in
    rw (error.1, error.2, count, w0, rules) (symbols-fault a.form.number (input_of a.source) _ _ _ _ _ _
    (rw c.in_err-cursor.was at c.read_table.ensures))

pub returns : goal.returns
unfolding counts_reader
returns c reader taken =
    let a = c.args in
    let source = source_of (input_of a.source) in
    let count-read = sym (rw c.in_ok-symbols.was at c.field_at_least.ensures.result_value) in
    let w0-read = sym (rw c.in_ok-w0.was at c.field_at_least-2.ensures.result_value) in
    let rules = sym (rw c.in_ok-rules.was at c.field.ensures.result_value) in
    let count = tested-field source 8 (leb 1) 4 a.cursor.at _ _ count-read in
    let w0 = tested-field source 16 (leb 1) 5 _ _ _ w0-read in
    let reach = reached-field (input_of a.source) in
    let second = reach 1 8 _ _ _ c.requires.reached count.0 in
    let few = rw c.in_ok-symbols.was at c.field_at_least.ensures.below in
    let some = rw c.in_ok-rules.was at c.field.ensures.below in
    let (read, stored) = rw c.in_ok-cursor.was at c.read_table.ensures in
    rw (count-read, w0-read, rules) (head_read a.form.number (input_of a.source) _ _ _ _
    a.table.now c.read_table.new.table _ read stored a.form.plain
    (both-stand (input_of a.source) _ _ (w0-stands (input_of a.source) 16 _ _ _ second w0.0) c.requires.sheet_value)
    c.read_table.auto.table
    (room-le (input_of a.source) _ _ a.table.now (table-le _ few) c.requires.room)
    (reach 3 10 _ _ _ (reach 2 16 _ _ _ second w0.0) rules) (source-short a.source) few some (leb-true 1 _ w0.1)
    (rw c.in_ok-w0.was at c.field_at_least-2.ensures.below) reader taken)
