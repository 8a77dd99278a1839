-- The loop keeps: none before `g` has a higher rank.
use Rattle.symbols.proofs.RankLaws.{Unranked}
use Rattle.symbols.proofs.ranks.is_outranked.Given as goal

abbrev pub invariant-loop-g : goal.invariant-loop-g
invariant-loop-g l = Unranked l.table l.count l.rank l.g
