-- What crosses is what the page gives back, whose numbers are small.
use mathlib.Core.Path.{sym}
use native.Mathlib.Omega.{arith}
use Rattle.ackbo.proofs.BoundLaws.{paged-small}
use Rattle.ackbo.proofs.ackbo_page.Goals as goal

pub put-requires : goal.put-requires
put-requires c =
    rw c.page.ensures.result_value (paged-small c.args.book.now c.args.page.now (omega
    (arith, c.well_formed.1.0.1)))

pub returns : goal.returns
returns c =
    rw (sym c.page.ensures.result_value) (record {
      value = c.put.ensures.value;
      reply_after = c.put.ensures.reply_after;
      page_after = c.page.ensures.page_after;
    })
