-- What relates the terms at the fronts says which side is the greater one.
use Rattle.std.proofs.lemmas.Result.{err_from_is_err_and}
use Rattle.picking.proofs.PickLaws.{inputs-refused, inputs-picked}
use Rattle.picking.proofs.greater_side.Goals as goal

pub returns-in_err-relate : goal.returns-in_err-relate
returns-in_err-relate c =
    let error = err_from_is_err_and c.from_residual.result c.from_residual.ensures.1 in
    rw (error.1, error.2) (inputs-refused _ _ _ _ c.relate.ensures _ c.in_err-relate.was)

pub returns : goal.returns
returns c = rw c.side_of.ensures (inputs-picked _ _ _ _ c.relate.ensures _ c.in_ok-relate.was)
