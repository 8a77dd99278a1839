-- A packed entry is stored after the earlier ones; among words it stands after them.
use mathlib.Core.Bool.{false}
use Rattle.symbols.proofs.EntryLaws.{symbols-stand, symbols-put}
use Rattle.reader.proofs.symbol.put_entry.Goals as goal

pub returns-in-Book-clause-by_index : goal.returns-in-Book-clause-by_index
returns-in-Book-clause-by_index c s e h =
    let a = c.args in
    rw (c.in-Book.is, e, c.put_symbol.ensures)
    (symbols-put a.table.now a.number (rw c.in-Book.is at c.requires.1) a.entry.arity a.entry.ac a.entry.weight a.entry.rank
    c.requires.2 c.requires.3)

pub returns-in-Sheet-clause-by_index : goal.returns-in-Sheet-clause-by_index
returns-in-Sheet-clause-by_index c s e h =
    rw c.in-Sheet.is (symbols-stand false c.in-Sheet.field-0.now c.args.number s (rw c.in-Sheet.is at h))
