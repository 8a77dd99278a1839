-- The loop keeps: the sums over the words before the one at hand, which are small. Over all words of a term they are the
-- term's.
use mathlib.Core.Path.{◌≡◌}
use native.Mathlib.Omega.{arith}
use lib.ListN.{length}
use lib.Seq.{take-length}
use Rattle.weights.proofs.TotalLaws.{totals-next, within-more, can_add, term-nodes, totalled}
use Rattle.weights.proofs.nodes.Weighing.total.Goals as goal

pub bounds-self-from : goal.bounds-self-from
bounds-self-from c = rw c.from.ensures (term-nodes c.args.self.now.stored c.requires c.loop-word.word-index (omega arith))

pub add-here-requires : goal.add-here-requires
add-here-requires c =
    let N = c.args.self.now.stored in
    let word = term-nodes N c.requires c.loop-word.word-index (omega arith) in
    rw c.from.ensures (can_add c.loop-word.invariant.1 (N.sum _ word) (omega (arith, c.requires.short)))

pub loop-word-preserved : goal.loop-word-preserved
loop-word-preserved c =
    let N = c.args.self.now.stored in
    let l = c.loop-word in
    let node = N.sum _ (term-nodes N c.requires l.word-index (omega arith)) in
    rw (c.add-here.ensures, c.from.ensures)
    (totals-next c.args.words.now (omega arith) l.invariant.0 node, within-more l.invariant.1 node)

pub returns : goal.returns
returns c =
    let l = c.loop-word in
    let e : l.word-index ≡ length c.args.words.now = omega arith in
    let (T, b) = rw (e, take-length c.args.words.now) at l.invariant in
    totalled c.args.self.now.stored c.requires T b
