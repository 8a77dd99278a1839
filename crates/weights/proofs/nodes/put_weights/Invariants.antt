-- The loop keeps: the weights of the first f symbols are stored, and nothing else has changed.
use mathlib.Core.Path.{◌≡◌}
use lib.ListN.{length}
use Rattle.symbols.specs.Table.{signature_of}
use Rattle.weights.specs.Nodes.{Weighed}
use Rattle.weights.proofs.nodes.put_weights.Given as goal

abbrev pub invariant-loop-f : goal.invariant-loop-f
invariant-loop-f l = (length l.adds ≡ 272) × Weighed (signature_of l.table) l.f l.initial.adds l.adds
