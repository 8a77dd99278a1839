-- The cells of the symbols and those of the variables are all.
use native.Mathlib.Omega.{arith}
use Rattle.symbols.specs.Table.{signature_of}
use Rattle.symbols.proofs.ArityLaws.{cells-all}
use Rattle.symbols.proofs.arities.Goals as goal

pub returns : goal.returns
returns c =
    let σ = signature_of c.args.table.now in
    cells-all σ _ _ (omega (arith, c.count.ensures)) (rw c.count.ensures.0 at c.put_symbol_cells.ensures)
    (c.put_variable_cells.ensures σ)
