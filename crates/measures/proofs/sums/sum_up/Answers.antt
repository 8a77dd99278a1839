-- The loop keeps: the sums over the words from i on, which are small, and those stored for the offsets from i on.
use Rattle.std.proofs.Common.{◌≡◌, ◌+◌, ◌-◌, length, arith}
use lib.ListN.{length-set}
use Rattle.weights.proofs.TotalLaws.{term-nodes, within-more, sums-within-more, can_add, totalled}
use Rattle.measures.proofs.SumLaws.{stored-from, totals-before}
use Rattle.measures.proofs.sums.sum_up.Goals as goal

pub bounds-weighing-from : goal.bounds-weighing-from
bounds-weighing-from c =
    rw c.from.ensures (term-nodes c.args.weighing.now.stored c.requires.0 (c.loop-i.i - 1) (omega arith))

pub add-here-requires : goal.add-here-requires
add-here-requires c =
    let N = c.args.weighing.now.stored in
    let p = c.requires.0 in
    let word = term-nodes N p (c.loop-i.i - 1) (omega arith) in
    rw c.from.ensures (can_add c.loop-i.invariant.2 (N.sum _ word) (omega (arith, p.short)))

pub loop-i-preserved : goal.loop-i-preserved
loop-i-preserved c =
    let N = c.args.weighing.now.stored in
    let l = c.loop-i in
    let (p, room) = c.requires in
    let node = N.sum _ (term-nodes N p (l.i - 1) (omega arith)) in
    let e : l.i - 1 + 1 ≡ l.i = omega arith in
    let n : length c.args.words.now - l.i + 1 ≡ length c.args.words.now - (l.i - 1) = omega arith in
    let more = totals-before c.args.words.now (omega arith) (omega arith) l.invariant.1 node in
    rw (c.add-here.ensures, c.from.ensures) (
      simp length-set l.invariant.0,
      more,
      rw n at (within-more l.invariant.2 node),
      stored-from l.sums (l.i - 1) (omega arith) more (rw e l.invariant.3),
    )

pub returns-clause-totalled : goal.returns-clause-totalled
returns-clause-totalled c =
    let l = c.loop-i in
    let z : l.i ≡ 0 = omega arith in
    let (_, T, b, _) = rw z at l.invariant in
    totalled c.args.weighing.now.stored c.requires.0 T (sums-within-more (omega arith) b)
