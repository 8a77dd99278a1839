-- What comparing two terms under a rule file gives back, for every input.
-- Renders: 01, "Replies and refusals": "Comparing (book, left, right)", "each with 10, 2, 14, 9, 15", and its reply.
use Rattle.std.specs.Prelude.{List, cond, ℕ}
use Rattle.terms.specs.Signature.{Signature}
use Rattle.terms.specs.Term.{Term}
use Rattle.terms.specs.Equivalence.{is_equivalent}
use Rattle.terms.specs.Order.{is_greater, margin}
use Rattle.format.specs.Files.{read_term}
use Rattle.operations.specs.declared.Relation.{Relation}
use Rattle.operations.specs.declared.Relation.TheVariants.{Greater, Less, Equivalent, Unrelated}
use Rattle.operations.specs.declared.Comparison.{Comparison}
use Rattle.operations.specs.Replies.{Reply, ◌>>=◌}
use Rattle.operations.specs.Replies.Reply.{accepted}
use Rattle.operations.specs.Inputs.{read_inputs}

module _ (σ : Signature) where
  -- Less: the right is greater than the left. Unrelated: none of the three.
  unfoldable pub relation : Term → Term → Relation
  relation s t =
      cond (is_greater σ s t) Greater (cond (is_greater σ t s) Less (cond (is_equivalent σ s t) Equivalent Unrelated))

  abbrev pub comparison : Term → Term → Comparison
  comparison s t = record { relation = relation s t; margin = margin σ s t }

-- 01: comparing: the book, then left, then right.
unfoldable pub compared : List ℕ → List ℕ → List ℕ → Reply Comparison
compared bytes left right = do
  i ← read_inputs read_term bytes left right
  accepted (comparison i.signature i.left i.right)
