-- Each return is a law of the cells: a symbol, no node, a variable seen before, a new one.
use native.Mathlib.Omega.{arith}
use Rattle.variables.proofs.CellLaws.{word-symbol, word-known, word-new}
use Rattle.variables.proofs.Renumbering.rename.Goals as goal

pub returns-then-word-lt-FIRST_VARIABLE-clause-by_index : goal.returns-then-word-lt-FIRST_VARIABLE-clause-by_index
returns-then-word-lt-FIRST_VARIABLE-clause-by_index c =
    λ seen h n. word-symbol seen _ n _ c.if-word-lt-FIRST_VARIABLE.true

pub returns-in-Some-clause-by_index : goal.returns-in-Some-clause-by_index
returns-in-Some-clause-by_index c =
    λ seen h n. word-known seen _ n c.from-variable.result (omega arith) _ _ (omega arith) c.in-Some.is

pub returns-in-None-clause-by_index : goal.returns-in-None-clause-by_index
returns-in-None-clause-by_index c =
    λ seen h n. word-new seen _ n c.from-variable.result (omega arith) _ (omega arith) c.in-None.is
