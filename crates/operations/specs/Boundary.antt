-- The numbers by which a reply crosses the C boundary: a code, and three values.
-- Renders: 01, "Replies and refusals": "A refusal gives a number, which lent input is at fault (0 the first) and a
-- place", and the reply of each operation.
use Rattle.std.specs.Prelude.{List, [], ◌∷◌, ℕ, ℤ, pos, Option, Some, None}
use Rattle.operations.specs.Replies.{Reply}
use Rattle.operations.specs.Replies.Reply.{accepted, refused}
use Rattle.operations.specs.declared.Relation.{Relation}
use Rattle.operations.specs.declared.Relation.TheVariants.{Greater, Less, Equivalent, Unrelated}
use Rattle.operations.specs.declared.Comparison.{Comparison}
use Rattle.operations.specs.declared.GreaterSide.{GreaterSide}
use Rattle.operations.specs.declared.GreaterSide.TheVariants as side
use Rattle.operations.specs.declared.Summary.{Summary}

module _ {A : Type 0} where
  -- 0, or the error's code.
  abbrev pub code_of : Reply A → ℕ
  code_of (accepted a) = 0
  code_of (refused e) = e.code

  -- The values of an answer, or the error's input and offset.
  abbrev pub values_of : (A → List ℤ) → Reply A → List ℤ
  values_of values (accepted a) = values a
  values_of values (refused e) = pos e.input ∷ pos e.offset ∷ pos 0 ∷ []

abbrev pub number_values : ℕ → List ℤ
number_values n = pos n ∷ pos 0 ∷ pos 0 ∷ []

abbrev pub relation_value : Relation → ℤ
relation_value Greater = pos 1
relation_value Less = pos 2
relation_value Equivalent = pos 3
relation_value Unrelated = pos 4

abbrev pub comparison_values : Comparison → List ℤ
comparison_values c = relation_value c.relation ∷ c.margin ∷ pos 0 ∷ []

abbrev pub side_values : GreaterSide → List ℤ
side_values (side.Left n) = pos 1 ∷ pos n ∷ pos 0 ∷ []
side_values (side.Right n) = pos 2 ∷ pos n ∷ pos 0 ∷ []
side_values side.Equivalent = pos 3 ∷ pos 0 ∷ pos 0 ∷ []
side_values side.Unrelated = pos 4 ∷ pos 0 ∷ pos 0 ∷ []

-- A number that may be none: of terms, or of the job of a turn.
abbrev pub optional_values : Option ℕ → List ℤ
optional_values (Some n) = pos 1 ∷ pos n ∷ pos 0 ∷ []
optional_values None = pos 2 ∷ pos 0 ∷ pos 0 ∷ []

abbrev pub summary_values : Summary → List ℤ
summary_values s = pos s.rules ∷ pos s.decreasing ∷ pos s.score ∷ []
