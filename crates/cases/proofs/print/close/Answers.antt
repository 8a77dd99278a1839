-- Encoding replies with at most as many bytes as the book has.
use Rattle.std.proofs.Common.{sym, arith}
use Rattle.operations.proofs.ReplyLaws.{encoded-reply}
use Rattle.cases.proofs.print.close.Goals as goal

pub returns-in-Ok : goal.returns-in-Ok
returns-in-Ok g c =
    let e = encoded-reply _ _ _ (sym c.in-Ok.ensures.result_value) in
    omega (arith, c.encode.auto.bytes)
