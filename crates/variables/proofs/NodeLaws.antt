-- Node words, for callers.
--     nodes-of-fit, nodes-of-rule     nodes whose items fit, a rule's
use mathlib.Core.List.{List, [], ◌∷◌, ◌++◌, map, map-append}
use Prim.Native.Nat.{ℕ}
use Rattle.format.specs.Format.{Sides}
use Rattle.format.specs.Packing.{rule_items}
use Rattle.format.specs.Packing.Item.{node}
use Rattle.format.proofs.SpellingLaws.{AllFit}
use Rattle.variables.specs.Renumbering.{AllNodes}

nodes-of-fit : (ws : List ℕ) → AllFit (map node ws) → AllNodes ws
nodes-of-fit [] fits = tt
nodes-of-fit (w ∷ ws) fits = (fits.0, nodes-of-fit ws fits.1)

pub nodes-of-rule : (r : Sides) → AllFit (rule_items r) → AllNodes (r.left ++ r.right)
nodes-of-rule r fits = nodes-of-fit (r.left ++ r.right) (rw (map-append node r.left r.right) fits)
