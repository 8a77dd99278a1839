-- The loop keeps: no symbol before `f` is too low.
use native.Mathlib.Omega.{arith}
use Rattle.symbols.proofs.RankLaws.{searched-more}
use Rattle.symbols.proofs.ranks.first_outranked.Goals as goal

pub loop-f-preserved : goal.loop-f-preserved
loop-f-preserved c =
    searched-more c.args.table.now c.args.count c.loop-f.f (omega arith) c.loop-f.invariant
    (rw c.is_too_low.ensures at c.if-is_too_low.false)
