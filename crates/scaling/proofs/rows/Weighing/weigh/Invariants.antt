-- The loop keeps: the stack and the sum are those before offset k. Over all words the sum is near the weight.
use mathlib.Core.Path.{◌≡◌}
use Prim.Native.Nat.{◌*◌, ◌≤◌}
use Rattle.symbols.specs.Table.{signature_of}
use Rattle.scaling.specs.Scaled.{listed, pending_at, weight_to}
use Rattle.scaling.proofs.rows.Weighing.weigh.Given as goal

abbrev pub invariant-loop-word : goal.invariant-loop-word
invariant-loop-word l =
    (listed l.scan.products l.scan.top ≡ pending_at (signature_of l.self.table.now) l.words l.word-index)
    × (l.scan.sum ≡ weight_to (signature_of l.self.table.now) l.words l.word-index) × (l.scan.sum ≤ 281474976710656 * l.word-index)
