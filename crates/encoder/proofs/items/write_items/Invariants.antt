-- The loop keeps: some bits are written, and with those of the rest they are all; what waits is stored at the end.
use mathlib.Core.List.{List, ◌++◌}
use mathlib.Core.Path.{◌≡◌}
use Prim.Native.Nat.{ℕ, ◌<◌}
use lib.ListN.{length}
use Rattle.writer.specs.Writer.{Writes}
use Rattle.encoder.specs.Items.{bits_to, node_bits}
use Rattle.encoder.proofs.items.write_items.Given as goal

abbrev pub invariant-loop-six : goal.invariant-loop-six
invariant-loop-six l =
    (l.writer.count < 8) × (bits : List ℕ) × (bits ++ node_bits l.rest ≡ bits_to l.words l.nodes (length l.words)) ×
    Writes bits l.writer l.bytes

abbrev pub decreases-loop-six : goal.decreases-loop-six
decreases-loop-six l = length l.rest
