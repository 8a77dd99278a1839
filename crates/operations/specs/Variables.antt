-- What the variable test of two terms under a rule file gives back, for every input.
-- Renders: 02, order 3: "It can be called by itself on a book and two terms, with comparing's refusals."
use Rattle.std.specs.Prelude.{List, ℕ}
use Rattle.terms.specs.Oftener.{first_oftener}
use Rattle.format.specs.Files.{read_term}
use Rattle.operations.specs.Replies.{Reply, ◌>>=◌}
use Rattle.operations.specs.Replies.Reply.{accepted}
use Rattle.operations.specs.Inputs.{read_inputs}

-- The first variable that occurs oftener on the right, 16 if none does.
unfoldable pub oftener : List ℕ → List ℕ → List ℕ → Reply ℕ
oftener bytes left right = do
  i ← read_inputs read_term bytes left right
  accepted (first_oftener i.signature i.left i.right)
