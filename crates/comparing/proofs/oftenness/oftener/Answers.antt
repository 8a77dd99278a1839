-- The inputs are read, and the terms up to their ends are tested under the table's front.
use Rattle.std.proofs.lemmas.Result.{err_from_is_err_and}
use Rattle.comparing.proofs.OftenerLaws.{test-refused, tested}
use Rattle.comparing.proofs.oftenness.oftener.Goals as goal

pub returns-in_err-ends : goal.returns-in_err-ends
returns-in_err-ends c =
    let error = err_from_is_err_and c.from_residual.result c.from_residual.ensures.1 in
    rw (error.1, error.2) (test-refused _ _ _ _ _ c.read_inputs.ensures _ c.in_err-ends.was)

pub returns : goal.returns
returns c = tested _ _ _ _ _ c.read_inputs.ensures _ c.in_ok-ends.was _ c.oftener_read.ensures
