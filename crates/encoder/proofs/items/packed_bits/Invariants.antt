-- The loop keeps: nine bits for each node so far, less four for each variable.
use Prim.Native.Nat.{◌+◌, ◌*◌, ◌≤◌}
use mathlib.Core.Path.{◌≡◌}
use lib.ListN.{length}
use Rattle.encoder.specs.Items.{bits_to}
use Rattle.encoder.proofs.items.packed_bits.Given as goal

abbrev pub invariant-loop-word : goal.invariant-loop-word
invariant-loop-word l = record {
  few : l.variables ≤ l.word-index;
  bits : length (bits_to l.words l.nodes (l.nodes + l.word-index)) + 4 * l.variables ≡
      38 + 28 * l.symbols + 9 * l.word-index;
}
