-- One value of the node's width has the node's bits.
use mathlib.Core.Path.{ap, ◌∙◌}
use Prim.Native.Nat.{ℕ}
use Rattle.format.specs.Packing.{bits_of}
use Rattle.encoder.proofs.items.push_node.Goals as goal

pub returns-clause-by_index : goal.returns-clause-by_index
returns-clause-by_index c =
    let e = ap (λ (k : ℕ). bits_of k c.node_value.result) c.node_width.ensures.0 ∙ c.node_value.ensures.0 in
    λ bits bytes h. rw (← e) (c.push.ensures.by_index bits bytes h)
