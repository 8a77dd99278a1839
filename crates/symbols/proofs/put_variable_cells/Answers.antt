-- The loop keeps: the cells of the variables before `word` are stored, and the others are as they were.
use mathlib.Core.Path.{◌≡◌, sym}
use native.Mathlib.Omega.{arith}
use Rattle.symbols.proofs.ArityLaws.{variable-cell, between_more}
use Rattle.symbols.proofs.put_variable_cells.Goals as goal

pub loop-word-preserved : goal.loop-word-preserved
loop-word-preserved c =
    λ σ. between_more σ 256 c.loop-word.word 1 c.args.cells.now c.loop-word.cells (omega arith) (omega arith)
    (sym (variable-cell σ c.loop-word.word (omega arith))) (c.loop-word.invariant σ)

pub returns : goal.returns
returns c = let e : c.loop-word.word ≡ 272 = omega arith in rw e at c.loop-word.invariant
