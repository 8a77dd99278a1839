-- Each branch is the call for its source; a packed file has its header stored before.
use mathlib.Core.Path.{◌∙◌}
use native.Mathlib.Omega.{arith}
use Rattle.symbols.proofs.EntryLaws.{table-some}
use Rattle.reader.proofs.SymbolLaws.{symbols-headed}
use Rattle.reader.proofs.symbol.read_symbols.Goals as goal

pub put_header-requires : goal.put_header-requires
put_header-requires c =
    omega (arith, table-some c.args.header.symbols, rw c.in-Book.is at c.requires.room)

pub returns-in-Book : goal.returns-in-Book
returns-in-Book c =
    let a = c.args in
    rw c.in-Book.is (symbols-headed c.in-Book.book.bytes.now _ a.header.symbols a.header.w0 a.header.rules _
    c.read_symbols_from.result _ a.table.now c.put_header.new.table _
    (c.put_header.ensures ∙ rw c.stored_form-form.ensures)
    c.read_symbols_from.ensures)
