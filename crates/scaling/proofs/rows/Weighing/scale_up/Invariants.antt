-- The loop keeps: the stack, the sum and what is stored are those before offset k. A product is at most the limit, so
-- the sum is far below 2 to the power of 64; over all words it is near the weight.
use mathlib.Core.Path.{◌≡◌}
use Prim.Native.Nat.{◌*◌, ◌≤◌}
use lib.ListN.{length}
use Rattle.symbols.specs.Table.{signature_of}
use Rattle.scaling.specs.Scaled.{listed, pending_at, weight_to}
use Rattle.scaling.proofs.StoredLaws.{StoredTo}
use Rattle.scaling.proofs.rows.Weighing.scale_up.Given as goal

abbrev pub invariant-loop-k : goal.invariant-loop-k
invariant-loop-k l =
    (listed l.scan.products l.scan.top ≡ pending_at (signature_of l.self.table.now) l.words l.k)
    × (l.scan.sum ≡ weight_to (signature_of l.self.table.now) l.words l.k) × (l.scan.sum ≤ 281474976710656 * l.k)
    × (length l.sums ≡ 129) × StoredTo (signature_of l.self.table.now) l.words l.sums l.k
