-- What crosses is what encoding replies, whose numbers are small.
use mathlib.Core.Path.{sym}
use native.Mathlib.Omega.{arith}
use Rattle.ackbo.proofs.BoundLaws.{encoded-small}
use Rattle.ackbo.proofs.ackbo_encode.Goals as goal

pub put-requires : goal.put-requires
put-requires c =
    rw c.encode.ensures.result_value (encoded-small c.args.words.now c.args.book.now (omega
    (arith, c.well_formed.0.1))
    (omega (arith, c.well_formed.1.0.1)))

pub returns : goal.returns
returns c =
    rw (sym c.encode.ensures.result_value) (record {
      value = c.put.ensures.value;
      reply_after = c.put.ensures.reply_after;
      book_after = c.encode.ensures.bytes_after;
    })
