-- The loop keeps: the cells of the variables before `word` are stored, and the others are as they were.
use Rattle.terms.specs.Signature.{Signature}
use Rattle.symbols.specs.Arities.{Between}
use Rattle.symbols.proofs.put_variable_cells.Given as goal

abbrev pub invariant-loop-word : goal.invariant-loop-word
invariant-loop-word l = (σ : Signature) → Between σ 256 l.word l.initial.cells l.cells
