-- The loop keeps: none before `g` has a higher rank.
use native.Mathlib.Omega.{arith}
use Rattle.symbols.proofs.RankLaws.{unranked-more}
use Rattle.symbols.proofs.ranks.is_outranked.Goals as goal

pub loop-g-preserved : goal.loop-g-preserved
loop-g-preserved c =
    unranked-more c.args.table.now c.args.count c.args.rank c.loop-g.g (omega arith) c.loop-g.invariant
    (rw c.word_at.ensures at c.if-rank-word_at.false)
