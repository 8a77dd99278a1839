-- The part is the front of the slice that the companion names, by its count of words.
use Rattle.picking.proofs.PickLaws.{left-front, right-front, part}
use Rattle.picking.proofs.greater_part.Goals as goal

pub slice_bounds-result-end : goal.slice_bounds-result-end
slice_bounds-result-end c =
    left-front _ _ _ _ (rw (c.in-Ok-Left.is, c.in-Ok-Left.field-0-is) at c.greater_side.ensures)

pub slice_bounds-result-end-in-Ok-Right : goal.slice_bounds-result-end-in-Ok-Right
slice_bounds-result-end-in-Ok-Right c =
    right-front _ _ _ _ (rw (c.in-Ok-Right.is, c.in-Ok-Right.field-0-is) at c.greater_side.ensures)

pub returns-in-Ok-Left-clause-result_value : goal.returns-in-Ok-Left-clause-result_value
returns-in-Ok-Left-clause-result_value c =
    part _ _ _ _ (rw (c.in-Ok-Left.is, c.in-Ok-Left.field-0-is) at c.greater_side.ensures)

pub returns-in-Ok-Right-clause-result_value : goal.returns-in-Ok-Right-clause-result_value
returns-in-Ok-Right-clause-result_value c =
    part _ _ _ _ (rw (c.in-Ok-Right.is, c.in-Ok-Right.field-0-is) at c.greater_side.ensures)

pub returns-in-Ok-Equivalent-clause-result_value : goal.returns-in-Ok-Equivalent-clause-result_value
returns-in-Ok-Equivalent-clause-result_value c =
    part _ _ _ _ (rw (c.in-Ok-Equivalent.is, c.in-Ok-Equivalent.field-0-is) at c.greater_side.ensures)

pub returns-in-Ok-Unrelated-clause-result_value : goal.returns-in-Ok-Unrelated-clause-result_value
returns-in-Ok-Unrelated-clause-result_value c =
    part _ _ _ _ (rw (c.in-Ok-Unrelated.is, c.in-Ok-Unrelated.field-0-is) at c.greater_side.ensures)

pub returns-in-Err-clause-result_value : goal.returns-in-Err-clause-result_value
returns-in-Err-clause-result_value c = part _ _ _ _ (rw c.in-Err.is at c.greater_side.ensures)
