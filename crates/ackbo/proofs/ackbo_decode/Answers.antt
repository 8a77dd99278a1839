-- What crosses is what decoding replies, whose numbers are small.
use mathlib.Core.Path.{sym}
use native.Mathlib.Omega.{arith}
use Rattle.ackbo.proofs.BoundLaws.{decoded-small}
use Rattle.ackbo.proofs.ackbo_decode.Goals as goal

pub put-requires : goal.put-requires
put-requires c =
    rw c.decode.ensures.result_value (decoded-small c.args.book.now c.args.words.now (omega
    (arith, c.well_formed.1.0.1)))

pub returns : goal.returns
returns c =
    rw (sym c.decode.ensures.result_value) (record {
      value = c.put.ensures.value;
      reply_after = c.put.ensures.reply_after;
      words_after = c.decode.ensures.words_after;
    })
