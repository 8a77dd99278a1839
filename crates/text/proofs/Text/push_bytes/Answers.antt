-- The loop keeps: the bytes before this one are pushed.
use Rattle.text.proofs.TextLaws.{pushed-next}
use Rattle.text.proofs.Text.push_bytes.Goals as goal

pub loop-byte-preserved : goal.loop-byte-preserved
loop-byte-preserved c =
    pushed-next c.loop-byte.byte-index c.args.bytes.now c.loop-byte-test.true c.loop-byte.invariant c.push_byte.ensures
