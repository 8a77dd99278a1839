-- The input and the offset are not negative as signed numbers.
use native.Mathlib.Omega.{arith}
use mir.Syntax.{w64}
use mir.ValLaws.{to_z_pos}
use Rattle.boundary.proofs.ReplyLaws.{whole}
use Rattle.boundary.proofs.put_error.Goals as goal

pub returns-clause-reply_after : goal.returns-clause-reply_after
returns-clause-reply_after c =
    let input = to_z_pos w64 c.args.input (omega arith) in
    let offset = to_z_pos w64 c.args.offset (omega arith) in
    rw (input, offset) (whole c.args.reply.now _ c.told-reply (omega arith))
