-- The loop keeps: the first k of what is left stand after the high part. What is left on the right is no more than was
-- there, so it has room.
use Rattle.std.proofs.Common.{arith}
use Rattle.equivalence.specs.Offsets.{terms_at}
use Rattle.extensions.proofs.SplitLaws.{surplus-few, joined-more}
use Rattle.extensions.proofs.parts.join_surplus.Goals as goal

pub push-requires : goal.push-requires
push-requires c =
    let a = c.args in
    let few = surplus-few a.pair.now.left.table.now a.pair.now.left.words.now a.left.now.bytes a.left.now.count
    c.requires.offsets_in_2 c.cancel.ensures.offsets_2 in
    (omega (arith, few), c.get.ensures.1)

pub loop-k-preserved : goal.loop-k-preserved
loop-k-preserved c =
    let a = c.args in
    let l = c.loop-k in
    let table = a.pair.now.left.table.now in
    let few = surplus-few table a.pair.now.left.words.now a.left.now.bytes a.left.now.count c.requires.offsets_in_2
    c.cancel.ensures.offsets_2 in
    let Q = c.cancel.ensures.offsets_2 in
    rw (c.push.ensures.bytes_after, c.push.ensures.count_after, c.get.ensures.0) (
      omega arith,
      joined-more table c.cancel.new.right.bytes
          (terms_at table a.pair.now.right.words.now a.high.now.bytes a.high.now.count)
          (omega (arith, Q.room, Q.few)) (omega (arith, few)) (Q.inside l.k c.loop-k-test.true) l.invariant.1,
    )
