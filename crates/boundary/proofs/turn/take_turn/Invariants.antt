-- The loop keeps: the search is that over the first jobs.
use mathlib.Core.Path.{◌≡◌}
use Rattle.scheduling.specs.Search.{scanned}
use Rattle.boundary.proofs.turn.take_turn.Given as goal

abbrev pub invariant-loop-index : goal.invariant-loop-index
invariant-loop-index l = l.search ≡ scanned l.fn.jobs l.buffer l.last l.index
