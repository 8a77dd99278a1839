-- The text is put line by line, by the marks and margins that the walk found.
use mathlib.Core.Path.{◌∙◌}
use native.Mathlib.Omega.{arith}
use Rattle.format.specs.Layout.{form_number}
use Rattle.format.proofs.FaultLaws.{fault-small}
use Rattle.marking.proofs.FoundLaws.{front_below}
use Rattle.marking.proofs.ReportLaws.{report-refusal, report-marks}
use Rattle.marking.proofs.report.report.Goals as goal

pub put_refusal-requires : goal.put_refusal-requires
put_refusal-requires c =
    (omega arith, fault-small c.args.book.now form_number _ _ (rw c.in-Err.is at c.mark_file.ensures))

pub returns-in-Err-clause-value : goal.returns-in-Err-clause-value
returns-in-Err-clause-value c =
    let code = c.from.ensures ∙ c.number.ensures in
    let (r, out) = report-refusal _ c.args.out.now _ _ _ _ _ c.mark_file.ensures _ c.in-Err.is _ _
    (rw code at c.put_refusal.ensures.value) (rw code at c.put_refusal.ensures.out_after) in
    (r, omega (arith, c.put_refusal.ensures.upper_bound))

pub returns-in-Err-clause-out_after : goal.returns-in-Err-clause-out_after
returns-in-Err-clause-out_after c =
    let code = c.from.ensures ∙ c.number.ensures in
    let (r, out) = report-refusal _ c.args.out.now _ _ _ _ _ c.mark_file.ensures _ c.in-Err.is _ _
    (rw code at c.put_refusal.ensures.value) (rw code at c.put_refusal.ensures.out_after) in
    out

pub returns-in-Ok-clause-value : goal.returns-in-Ok-clause-value
returns-in-Ok-clause-value c =
    let w = c.mark_file.ensures in
    let (same, start) = c.new-text.ensures.value in
    let n = front_below _ _ _ _ _ _ w _ c.in-Ok.is 1024 (omega arith) (omega arith) in
    let (r, out) = report-marks _ c.args.out.now _ _ _ _ _ w _ c.in-Ok.is (omega arith) (omega arith) _ _ _ _ _ _
    (rw (same, start) at c.push_count.ensures.pushed.put) c.push_rules.ensures.pushed.put
    c.push_summary.ensures.pushed.put in
    (r, omega arith)

pub returns-in-Ok-clause-out_after : goal.returns-in-Ok-clause-out_after
returns-in-Ok-clause-out_after c =
    let (same, start) = c.new-text.ensures.value in
    let (r, out) = report-marks _ c.args.out.now _ _ _ _ _ c.mark_file.ensures _ c.in-Ok.is (omega arith) (omega arith)
    _ _ _ _ _ _
    (rw (same, start) at c.push_count.ensures.pushed.put) c.push_rules.ensures.pushed.put
    c.push_summary.ensures.pushed.put in
    out
