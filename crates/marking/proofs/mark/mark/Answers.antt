-- The marks are found in memory of its own, and copied where the file is read and there is room for them.
use native.Mathlib.Omega.{arith}
use Rattle.marking.proofs.MarkLaws.{mark-fault, mark-short, mark-written}
use Rattle.marking.proofs.mark.mark.Goals as goal

pub returns-then-marks-rules-clause-result_value : goal.returns-then-marks-rules-clause-result_value
returns-then-marks-rules-clause-result_value c =
    (mark-short _ _ _ _ _ _ _ c.mark_file.ensures _ c.in-Ok.is c.if-marks-rules.true).0

pub returns-then-marks-rules-clause-marks_after : goal.returns-then-marks-rules-clause-marks_after
returns-then-marks-rules-clause-marks_after c =
    (mark-short _ _ _ _ _ _ _ c.mark_file.ensures _ c.in-Ok.is c.if-marks-rules.true).1

pub returns-in-Err-clause-result_value : goal.returns-in-Err-clause-result_value
returns-in-Err-clause-result_value c = (mark-fault _ _ _ _ _ _ _ c.mark_file.ensures _ c.in-Err.is _ c.in_input.ensures).0

pub returns-in-Err-clause-marks_after : goal.returns-in-Err-clause-marks_after
returns-in-Err-clause-marks_after c = (mark-fault _ _ _ _ _ _ _ c.mark_file.ensures _ c.in-Err.is _ c.in_input.ensures).1

pub returns-else-marks-rules-clause-result_value : goal.returns-else-marks-rules-clause-result_value
returns-else-marks-rules-clause-result_value c =
    (mark-written _ _ _ _ _ _ _ c.mark_file.ensures _ c.in-Ok.is _ _ c.if-marks-rules.false (omega arith)
    c.score.ensures.value c.copy_from_slice.ensures.after).0

pub returns-else-marks-rules-clause-marks_after : goal.returns-else-marks-rules-clause-marks_after
returns-else-marks-rules-clause-marks_after c =
    (mark-written _ _ _ _ _ _ _ c.mark_file.ensures _ c.in-Ok.is _ _ c.if-marks-rules.false (omega arith)
    c.score.ensures.value c.copy_from_slice.ensures.after).1
