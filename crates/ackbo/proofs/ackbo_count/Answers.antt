-- What crosses is what counting replies, whose numbers are small.
use mathlib.Core.Path.{sym}
use Rattle.ackbo.proofs.BoundLaws.{counted-small}
use Rattle.ackbo.proofs.ackbo_count.Goals as goal

pub put-requires : goal.put-requires
put-requires c = rw c.count.ensures (counted-small c.args.book.now c.args.n)

pub returns : goal.returns
returns c =
    rw (sym c.count.ensures) (record { value = c.put.ensures.value; reply_after = c.put.ensures.reply_after })
