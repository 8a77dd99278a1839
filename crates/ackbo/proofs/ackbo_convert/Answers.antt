-- What crosses is what converting replies, whose numbers are small.
use mathlib.Core.Path.{sym}
use native.Mathlib.Omega.{arith}
use Rattle.ackbo.proofs.BoundLaws.{converted-small}
use Rattle.ackbo.proofs.ackbo_convert.Goals as goal

pub put-requires : goal.put-requires
put-requires c =
    rw c.convert.ensures.result_value (converted-small c.args.book.now c.args.out.now
    (omega (arith, c.well_formed.0.1)))

pub returns : goal.returns
returns c =
    rw (sym c.convert.ensures.result_value) (record {
      value = c.put.ensures.value;
      reply_after = c.put.ensures.reply_after;
      out_after = c.convert.ensures.out_after;
    })
