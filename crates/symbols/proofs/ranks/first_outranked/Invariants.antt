-- The loop keeps: no symbol before `f` is too low.
use Rattle.symbols.proofs.RankLaws.{Searched}
use Rattle.symbols.proofs.ranks.first_outranked.Given as goal

abbrev pub invariant-loop-f : goal.invariant-loop-f
invariant-loop-f l = Searched l.table l.count l.f
