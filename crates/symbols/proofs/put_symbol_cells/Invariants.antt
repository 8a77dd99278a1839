-- The loop keeps: the cells of the symbols before `f` are stored, and the others are as they were.
use Rattle.symbols.specs.Table.{signature_of}
use Rattle.symbols.specs.Arities.{Between}
use Rattle.symbols.proofs.put_symbol_cells.Given as goal

abbrev pub invariant-loop-f : goal.invariant-loop-f
invariant-loop-f l = Between (signature_of l.table) 0 l.f l.initial.cells l.cells
