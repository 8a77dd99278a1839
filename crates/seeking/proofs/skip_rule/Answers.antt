-- The left side is read first, and the right one, with the variables that it leaves unused, over it.
use Rattle.std.proofs.lemmas.Result.{err_from_is_err_and}
use Rattle.format.specs.Layout.{form_number}
use Rattle.format.specs.Reading.{bit_source}
use Rattle.format.specs.Forms.{unused_of}
use Rattle.marking.proofs.SideLaws.{left-unread}
use Rattle.seeking.proofs.SkipLaws.{rule-skipped, rule-cut}
use Rattle.seeking.proofs.skip_rule.Goals as goal

pub returns-in_err-middle-clause-rule_skipped : goal.returns-in_err-middle-clause-rule_skipped
returns-in_err-middle-clause-rule_skipped c σ k plain =
    let a = c.args in
    let error = err_from_is_err_and c.from_residual.result c.from_residual.ensures.1 in
    rw (error.1, error.2) (left-unread σ plain (bit_source a.book.bytes.now) (unused_of form_number) a.cursor.at _ _
    (rw (c.in_err-middle.was, c.unused_at_start-unused.ensures.0) at (c.read_side.ensures.side_read σ k)))

pub returns-in_err-end-clause-rule_skipped : goal.returns-in_err-end-clause-rule_skipped
returns-in_err-end-clause-rule_skipped c σ k plain =
    let a = c.args in
    let (e, u) = rw (c.in_ok-middle.was, c.unused_at_start-unused.ensures.0) at (c.read_side.ensures.side_read σ k) in
    let error = err_from_is_err_and c.from_residual-in_err-end.result c.from_residual-in_err-end.ensures.1 in
    rw (error.1, error.2) (rule-cut σ plain (bit_source a.book.bytes.now) (unused_of form_number) a.cursor.at _ _ _ e u
    _ (rw c.in_err-end.was at (c.read_side-2.ensures.side_read σ k)))

pub returns-clause-rule_skipped : goal.returns-clause-rule_skipped
returns-clause-rule_skipped c σ k plain =
    let a = c.args in
    let (e, u) = rw (c.in_ok-middle.was, c.unused_at_start-unused.ensures.0) at (c.read_side.ensures.side_read σ k) in
    rule-skipped σ plain (bit_source a.book.bytes.now) (unused_of form_number) a.cursor.at _ _ _ e u _ _ _ _
    (rw c.in_ok-end.was at (c.read_side-2.ensures.side_read σ k))
