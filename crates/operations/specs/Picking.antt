-- What picking the greater of two terms under a rule file gives back, for every input.
-- Renders: 02, order 1: "the greater side is handed back as a part of the caller's own words. Each slice may have words
-- after its term, so 15 doesn't apply here. The part is empty if neither side is greater or an input is refused. A
-- companion reply says left, right, AC-equal, unrelated, or the refusal."
use Rattle.std.specs.Prelude.{List, [], ℕ, take}
use Rattle.terms.specs.Term.{size}
use Rattle.format.specs.Files.{read_first_term}
use Rattle.operations.specs.declared.Relation.{Relation}
use Rattle.operations.specs.declared.Relation.TheVariants as relation
use Rattle.operations.specs.declared.GreaterSide.{GreaterSide}
use Rattle.operations.specs.declared.GreaterSide.TheVariants.{Left, Right, Equivalent, Unrelated}
use Rattle.operations.specs.Replies.{Reply, ◌>>=◌}
use Rattle.operations.specs.Replies.Reply.{accepted, refused}
use Rattle.operations.specs.Inputs.{Inputs, read_inputs}
use Rattle.operations.specs.Comparing.{relation}

-- The side that a relation makes the greater one, of terms of so many words.
abbrev pub side_of : Relation → ℕ → ℕ → GreaterSide
side_of relation.Greater l r = Left l
side_of relation.Less l r = Right r
side_of relation.Equivalent l r = Equivalent
side_of relation.Unrelated l r = Unrelated

-- A term has a word for each node.
abbrev pub greater_side : Inputs → GreaterSide
greater_side i = side_of (relation i.signature i.left i.right) (size i.left) (size i.right)

-- 02: the companion reply.
unfoldable pub picked : List ℕ → List ℕ → List ℕ → Reply GreaterSide
picked bytes left right = do
  i ← read_inputs read_first_term bytes left right
  accepted (greater_side i)

-- What is made of the greater side by its count of words; the last where there is none.
abbrev pub of_greater : {A : Type 0} → Reply GreaterSide → (ℕ → A) → (ℕ → A) → A → A
of_greater (accepted (Left n)) left right none = left n
of_greater (accepted (Right n)) left right none = right n
of_greater (accepted Equivalent) left right none = none
of_greater (accepted Unrelated) left right none = none
of_greater (refused e) left right none = none

-- 02: the greater side as a part of the caller's own words.
unfoldable pub greater_part : List ℕ → List ℕ → List ℕ → List ℕ
greater_part bytes left right = of_greater (picked bytes left right) (λ n. take n left) (λ n. take n right) []
