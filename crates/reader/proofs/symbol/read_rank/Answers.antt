-- The marks are those of the earlier ranks, so that the test is the definition's.
use Rattle.std.proofs.lemmas.Result.{err_from_is_err_and}
use mathlib.Core.Path.{sym, ap, ◌∙◌}
use mathlib.Core.Bool.{not}
use Prim.Native.Nat.{ℕ}
use Rattle.format.specs.Symbols.{held_by}
use Rattle.reader.specs.Source.{input_of, source_of}
use Rattle.reader.proofs.SourceLaws.{tested-fault, tested-less, tested-got}
use Rattle.reader.proofs.symbol.read_rank.Goals as goal

pub returns-in_err-rank-clause-result_value : goal.returns-in_err-rank-clause-result_value
returns-in_err-rank-clause-result_value c earlier h =
    let a = c.args in
    let error = err_from_is_err_and c.from_residual.result c.from_residual.ensures.1 in
    rw (error.1, error.2) (sym (tested-fault (source_of (input_of a.source)) 8
    (λ (rank : ℕ). not (held_by earlier rank)) 8 a.cursor.at _ _
    (sym (rw c.in_err-rank.was at c.field.ensures.result_value))))

pub returns-then-taken-rank-clause-result_value : goal.returns-then-taken-rank-clause-result_value
returns-then-taken-rank-clause-result_value c earlier h =
    let a = c.args in
    sym (tested-less (source_of (input_of a.source)) 8 (λ (rank : ℕ). not (held_by earlier rank)) 8
    a.cursor.at _ _ (sym (rw c.in_ok-rank.was at c.field.ensures.result_value))
    (ap not (sym (h _ (rw c.in_ok-rank.was at c.field.ensures.below)) ∙ c.if-taken-rank.true)))

pub returns-clause-result_value : goal.returns-clause-result_value
returns-clause-result_value c earlier h =
    let a = c.args in
    sym (tested-got (source_of (input_of a.source)) 8 (λ (rank : ℕ). not (held_by earlier rank)) 8
    a.cursor.at _ _ (sym (rw c.in_ok-rank.was at c.field.ensures.result_value))
    (ap not (sym (h _ (rw c.in_ok-rank.was at c.field.ensures.below)) ∙ c.if-taken-rank.false)))
