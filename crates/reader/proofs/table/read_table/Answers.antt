-- The symbols are read, and the first that is outranked is looked for if one of them has arity 1 and weighs 0.
use Rattle.std.proofs.lemmas.Result.{err_from_is_err_and}
use mathlib.Core.Path.{sym, ◌∙◌}
use mathlib.Core.Bool.{false}
use native.Mathlib.Omega.{arith}
use Prim.Native.Nat.{◌<◌}
use lib.ListN.{length}
use Rattle.symbols.specs.Table.{symbols_in}
use Rattle.symbols.proofs.TableLaws.{length_symbols}
use Rattle.reader.specs.Source.{input_of, source_of, table_of}
use Rattle.reader.proofs.SourceLaws.{source-short, reached-le}
use Rattle.reader.proofs.WeightLaws.{none-outranked}
use Rattle.reader.proofs.SymbolLaws.{table-unread, table-outranked, table-ranked}
use Rattle.reader.proofs.table.read_table.Goals as goal

pub returns-in_err-weightless : goal.returns-in_err-weightless
returns-in_err-weightless c =
    let error = err_from_is_err_and c.from_residual.result c.from_residual.ensures.1 in
    rw (error.1, error.2) (table-unread _ _ _ _ _ _ _ (rw c.in_err-weightless.was at c.read_symbols.ensures))

pub returns-then-not-weightless : goal.returns-then-not-weightless
returns-then-not-weightless c =
    let a = c.args in
    let (read, weightless, stored) = rw c.in_ok-weightless.was at c.read_symbols.ensures in
    let symbols = symbols_in false (table_of (input_of a.source) c.read_symbols.new.table) 0 a.header.symbols in (
      table-ranked (source_of (input_of a.source)) _ _ a.header.symbols a.cursor.at _ _ read
          (length symbols) (sym (none-outranked symbols symbols (sym weightless ∙ c.if-not-weightless.true)))
          (omega arith),
      stored,
    )

pub weight_offset-offset-requires : goal.weight_offset-offset-requires
weight_offset-offset-requires c =
    let a = c.args in (
      reached-le (input_of a.source) 4 a.cursor.at (omega arith) (source-short a.source)
          c.requires.reached,
      omega arith,
    )

pub returns-in-Some : goal.returns-in-Some
returns-in-Some c =
    let a = c.args in
    let table = table_of (input_of a.source) c.read_symbols.new.table in
    let read = (rw c.in_ok-weightless.was at c.read_symbols.ensures).0 in
    let symbols = symbols_in false table 0 a.header.symbols in
    let below : c.in-Some.low < length symbols = omega (arith, length_symbols false table 0 a.header.symbols) in
    table-outranked (source_of (input_of a.source)) _ _ a.header.symbols a.cursor.at _ _ read _
    (sym (rw c.in-Some.is at c.outranked_in.ensures).0) below _
    (c.weight_offset-offset.ensures a.header.form.number symbols a.header.form.plain below)

pub returns-in-None : goal.returns-in-None
returns-in-None c =
    let a = c.args in
    let table = table_of (input_of a.source) c.read_symbols.new.table in
    let (read, weightless, stored) = rw c.in_ok-weightless.was at c.read_symbols.ensures in (
      table-ranked (source_of (input_of a.source)) _ _ a.header.symbols a.cursor.at _ _ read _
          (sym (rw c.in-None.is at c.outranked_in.ensures))
          (omega (arith, length_symbols false table 0 a.header.symbols)),
      stored,
    )
