-- What crosses is what listing replies, whose numbers are small.
use mathlib.Core.Path.{sym}
use native.Mathlib.Omega.{arith}
use Rattle.ackbo.proofs.BoundLaws.{listed_small}
use Rattle.ackbo.proofs.ackbo_list.Goals as goal

pub put-requires : goal.put-requires
put-requires c =
    rw c.list.ensures.result_value (listed_small c.args.book.now c.args.words.now c.args.n
    (omega
    (arith, c.well_formed.1.0.1)))

pub returns : goal.returns
returns c =
    rw (sym c.list.ensures.result_value) (record {
      value = c.put.ensures.value;
      reply_after = c.put.ensures.reply_after;
      words_after = c.list.ensures.words_after;
    })
