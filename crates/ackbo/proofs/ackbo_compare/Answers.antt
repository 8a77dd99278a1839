-- What crosses is what comparing replies, whose numbers are small.
use mathlib.Core.Path.{sym}
use native.Mathlib.Omega.{arith}
use Rattle.ackbo.proofs.BoundLaws.{compared-small}
use Rattle.ackbo.proofs.ackbo_compare.Goals as goal

pub put-requires : goal.put-requires
put-requires c =
    let a = c.args in
    let (left, right) = c.well_formed.1 in
    rw c.compare.ensures (compared-small a.book.now a.left.now a.right.now (omega (arith, left.1))
    (omega (arith, right.0.1)))

pub returns : goal.returns
returns c =
    rw (sym c.compare.ensures) (record { value = c.put.ensures.value; reply_after = c.put.ensures.reply_after })
