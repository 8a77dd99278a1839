-- The loop keeps: what the variables below the word at hand add is stored, and nothing else has changed.
use mathlib.Core.Path.{◌≡◌}
use lib.ListN.{length}
use Rattle.symbols.specs.Table.{signature_of}
use Rattle.weights.specs.Nodes.{Occurring}
use Rattle.weights.proofs.nodes.put_variables.Given as goal

abbrev pub invariant-loop-word : goal.invariant-loop-word
invariant-loop-word l =
    (length l.adds ≡ 272) × Occurring (signature_of l.table) l.word l.initial.adds l.adds
