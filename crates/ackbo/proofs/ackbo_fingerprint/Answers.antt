-- What crosses is what the fingerprint replies, whose number is small.
use mathlib.Core.Path.{sym}
use native.Mathlib.Omega.{arith}
use Rattle.ackbo.proofs.BoundLaws.{fingerprinted-small}
use Rattle.ackbo.proofs.ackbo_fingerprint.Goals as goal

pub put-requires : goal.put-requires
put-requires c =
    rw c.fingerprint.ensures (fingerprinted-small c.args.book.now c.args.term.now (omega (
      arith,
      c.well_formed.1.0.1,
    )))

pub returns : goal.returns
returns c =
    rw (sym c.fingerprint.ensures) (record {
      value = c.put.ensures.value;
      reply_after = c.put.ensures.reply_after;
    })
