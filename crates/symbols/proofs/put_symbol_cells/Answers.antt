-- The loop keeps: the cells of the symbols before `f` are stored, and the others are as they were.
use mathlib.Core.Path.{ap}
use Prim.Native.Nat.{suc}
use native.Mathlib.Omega.{arith}
use Rattle.terms.specs.Signature.{Symbol}
use Rattle.symbols.specs.Table.{signature_of}
use Rattle.symbols.proofs.TableLaws.{symbol-at, symbol-count}
use Rattle.symbols.proofs.ArityLaws.{symbol-cell, between_more}
use Rattle.symbols.proofs.put_symbol_cells.Goals as goal

pub bounds-table-f : goal.bounds-table-f
bounds-table-f c = omega (arith, symbol-count c.args.table.now)

pub loop-f-preserved : goal.loop-f-preserved
loop-f-preserved c =
    let σ = signature_of c.args.table.now in
    let f = c.loop-f.f in
    let e = ap (λ (s : Symbol). suc s.arity) (symbol-at c.args.table.now f) in
    between_more σ 0 f _ c.args.cells.now c.loop-f.cells (omega arith) (omega arith)
    (omega (arith, c.from.ensures, e, symbol-cell σ f (omega arith) (omega arith))) c.loop-f.invariant
