-- The loop keeps: the nodes before this one are pushed.
use mathlib.Core.List.{[], ◌∷◌, ◌++◌, append_assoc, append-nil}
use mathlib.Core.Path.{◌≡◌}
use Prim.Native.Nat.{suc, ◌+◌}
use native.Mathlib.Omega.{arith}
use lib.ListN.{get_or, take}
use lib.Seq.{take-suc, take_all}
use Rattle.format.specs.Packing.{item_bits}
use Rattle.format.specs.Packing.Item.{node}
use Rattle.encoder.specs.Items.{node_bits}
use Rattle.encoder.proofs.ItemBits.{flat-nil, node_append, node-one}
use Rattle.encoder.proofs.items.push_nodes.Goals as goal

pub loop-word-init : goal.loop-word-init
loop-word-init c = record {
  count = omega arith;
  written = λ bits bytes h. rw (flat-nil (λ w. item_bits (node w)), append-nil bits) h;
}

pub loop-word-preserved : goal.loop-word-preserved
loop-word-preserved c =
    let k = c.loop-word.word-index in
    let ws = c.args.nodes.now in
    let e : k + 1 ≡ suc k = omega arith in record {
      count = omega arith;
      written = λ bits bytes h.
          let before = node_bits (take k ws) in
          rw (
            e,
            take-suc ws k 0 c.loop-word-test.true,
            node_append (take k ws) (get_or ws k 0 ∷ []),
            node-one (get_or ws k 0),
            ← append_assoc bits before (item_bits (node (get_or ws k 0))),
          )
          (c.push_node-last.ensures.by_index (bits ++ before) bytes (c.loop-word.invariant.written bits bytes h));
    }

pub returns-clause-by_index : goal.returns-clause-by_index
returns-clause-by_index c =
    λ bits bytes h.
    rw (take_all c.loop-word.word-index c.args.nodes.now (omega arith)) at (c.loop-word.invariant.written bits bytes h)
