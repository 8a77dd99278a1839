-- The three values are those of the answer.
use mathlib.Core.Path.{◌≡◌}
use native.Mathlib.Omega.{arith}
use lib.ListN.{length}
use Rattle.boundary.proofs.ReplyLaws.{whole}
use Rattle.boundary.proofs.put.Goals as goal

pub returns-in-Ok-clause-reply_after : goal.returns-in-Ok-clause-reply_after
returns-in-Ok-clause-reply_after g c =
    let three : length c.values.result ≡ 3 = omega arith in
    rw (c.in-Ok.is, ← c.values.ensures) (whole c.args.reply.now c.values.result c.told-reply three)
