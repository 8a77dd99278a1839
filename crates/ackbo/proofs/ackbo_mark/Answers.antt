-- What crosses is what marking replies, whose numbers are small.
use mathlib.Core.Path.{sym}
use Rattle.boundary.specs.Numbers.{most_of}
use Rattle.ackbo.proofs.BoundLaws.{marked-small, most-small}
use Rattle.ackbo.proofs.ackbo_mark.Goals as goal

pub put-requires : goal.put-requires
put-requires c = rw c.mark.ensures.result_value (marked-small c.args.book.now c.args.marks.now most_of most-small)

pub returns : goal.returns
returns c =
    rw (sym c.mark.ensures.result_value) (record {
      value = c.put.ensures.value;
      reply_after = c.put.ensures.reply_after;
      marks_after = c.mark.ensures.marks_after;
    })
