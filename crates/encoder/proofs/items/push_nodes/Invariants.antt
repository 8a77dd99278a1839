-- The loop keeps: the nodes before this one are pushed.
use mathlib.Core.List.{List, ◌++◌}
use Prim.Native.Nat.{ℕ, ◌+◌, ◌*◌, ◌≤◌}
use lib.ListN.{take}
use Rattle.writer.specs.Writer.{Writes}
use Rattle.encoder.specs.Items.{node_bits}
use Rattle.encoder.proofs.items.push_nodes.Given as goal

abbrev pub invariant-loop-word : goal.invariant-loop-word
invariant-loop-word l = record {
  count : l.last.count ≤ l.initial.last.count + 9 * l.word-index;
  written : (bits bytes : List ℕ) → Writes bits l.initial.last bytes →
      Writes (bits ++ node_bits (take l.word-index l.nodes)) l.last bytes;
}
