-- A weight of at least what is kept passes; a smaller one passes if it is 0 of arity 1 in a later form.
use Rattle.std.proofs.lemmas.Result.{err_from_is_err_and}
use mathlib.Core.Path.{sym, ◌∙◌}
use lib.Dec.{leb}
use Rattle.format.specs.Errors.{weight_inadmissible}
use Rattle.format.specs.Layout.{weight_width}
use Rattle.format.specs.Forms.{least_weight_in}
use Rattle.reader.specs.Source.{input_of, source_of}
use Rattle.reader.proofs.SourceLaws.{tested-fault, tested-less, tested-got}
use Rattle.reader.proofs.WeightLaws.{weighs-enough, weighs-less, weighs-too-little}
use Rattle.reader.proofs.weight.read_weight.Goals as goal

pub returns-in_err-weight-clause-by_index : goal.returns-in_err-weight-clause-by_index
returns-in_err-weight-clause-by_index c w0 weightless kept =
    let a = c.args in
    let error = err_from_is_err_and c.from_residual.result c.from_residual.ensures.1 in
    rw (error.1, error.2) (
      sym (tested-fault (source_of (input_of a.source)) weight_width
          (leb (least_weight_in a.form w0 a.arity)) weight_inadmissible a.cursor.at _ _
          (sym (rw c.in_err-weight.was at c.field.ensures.result_value))),
      tt,
    )

pub returns-then-not-may_weigh_less-clause-by_index : goal.returns-then-not-may_weigh_less-clause-by_index
returns-then-not-may_weigh_less-clause-by_index c w0 weightless kept =
    let a = c.args in
    let refused = sym c.may_weigh_less.ensures ∙ c.if-not-may_weigh_less.true in (
      sym (tested-less (source_of (input_of a.source)) weight_width
          (leb (least_weight_in a.form w0 a.arity)) weight_inadmissible a.cursor.at _ _
          (sym (rw c.in_ok-weight.was at c.field.ensures.result_value))
          (weighs-too-little a.form w0 weightless a.arity _ (rw kept.0 at c.if-weight-least.true) refused)),
      tt,
    )

pub returns-else-not-may_weigh_less-clause-by_index : goal.returns-else-not-may_weigh_less-clause-by_index
returns-else-not-may_weigh_less-clause-by_index c w0 weightless kept =
    let a = c.args in
    let admitted = sym c.may_weigh_less.ensures ∙ c.if-not-may_weigh_less.false in
    let (passes, after) =
    weighs-less a.form w0 weightless a.arity _ (rw kept.0 at c.if-weight-least.true) admitted in (
      sym (tested-got (source_of (input_of a.source)) weight_width
          (leb (least_weight_in a.form w0 a.arity)) weight_inadmissible a.cursor.at _ _
          (sym (rw c.in_ok-weight.was at c.field.ensures.result_value)) passes),
      rw kept.0 after,
    )

pub returns-else-weight-least-clause-by_index : goal.returns-else-weight-least-clause-by_index
returns-else-weight-least-clause-by_index c w0 weightless kept =
    let a = c.args in
    let (passes, same) =
    weighs-enough a.form w0 weightless a.arity _ kept.1 (rw kept.0 at c.if-weight-least.false) in (
      sym (tested-got (source_of (input_of a.source)) weight_width
          (leb (least_weight_in a.form w0 a.arity)) weight_inadmissible a.cursor.at _ _
          (sym (rw c.in_ok-weight.was at c.field.ensures.result_value)) passes),
      rw same kept,
    )
