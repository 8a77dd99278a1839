-- The converted bytes, or the line of the refusal, are within the buffer that they are put into.
use Rattle.std.proofs.Common.{sym, arith, length-take-le}
use Rattle.operations.proofs.ReplyLaws.{converted-reply}
use Rattle.converter.proofs.ConvertLaws.{refused-small}
use Rattle.convert.proofs.main.Goals as goal

pub slice_bounds-converted-end : goal.slice_bounds-converted-end
slice_bounds-converted-end c =
    let fits = converted-reply _ _ _ (sym c.in-Ok.ensures.result_value) in
    omega (arith, c.convert.auto.out)

pub slice_bounds-write_all-end : goal.slice_bounds-write_all-end
slice_bounds-write_all-end c =
    let fits = converted-reply _ _ _ (sym c.in-Ok.ensures.result_value) in
    sym (length-take-le _ _ (omega (arith, c.convert.auto.out)))

pub put_refusal-end-requires : goal.put_refusal-end-requires
put_refusal-end-requires c = (omega arith, refused-small _ _ _ c.in-Err.ensures.result_value)
