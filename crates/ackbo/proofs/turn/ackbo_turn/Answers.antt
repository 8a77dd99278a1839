-- What crosses is what a turn replies.
use mathlib.Core.Path.{sym}
use Rattle.ackbo.proofs.turn.ackbo_turn.Goals as goal

pub returns : goal.returns
returns c =
    rw (sym c.take_turn.ensures.result_value) (
      c.put.ensures.value,
      c.take_turn.ensures.jobs_after,
      c.take_turn.ensures.marks_after,
      c.put.ensures.reply_after,
    )
