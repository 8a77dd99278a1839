-- The numbers that cross the C boundary, by computation: the code and the three values of each answer and of a refusal.
use Rattle.std.specs.Prelude.{Some, None}
use mathlib.Core.Path.{◌≡◌, refl}
use mathlib.Core.List.{List, [], ◌∷◌}
use Prim.Native.Nat.{ℕ}
use lib.IntN.{ℤ, pos, negsuc}
use Rattle.operations.specs.Replies.{Reply}
use Rattle.operations.specs.Replies.Reply.{accepted, refused}
use Rattle.operations.specs.declared.Relation.{Relation}
use Rattle.operations.specs.declared.Relation.TheVariants.{Greater, Less, Equivalent, Unrelated}
use Rattle.operations.specs.declared.GreaterSide.TheVariants as side
use Rattle.operations.specs.Boundary.{code_of, values_of, number_values, comparison_values, side_values}
use Rattle.operations.specs.Boundary.{optional_values, summary_values}

-- The code, then the values.
abbrev crosses : {A : Type 0} → (A → List ℤ) → Reply A → List ℤ
crosses values r = pos (code_of r) ∷ values_of values r

abbrev compares : Relation → ℤ → List ℤ
compares r m = crosses comparison_values (accepted (record { relation = r; margin = m }))

abbrev numbers : List (List ℤ)
numbers =
    compares Greater (pos 2) ∷ compares Less (negsuc 0) ∷ compares Equivalent (pos 0) ∷ compares Unrelated (pos 7) ∷
    crosses side_values (accepted (side.Left 3)) ∷ crosses side_values (accepted (side.Right 5)) ∷
    crosses side_values (accepted side.Equivalent) ∷ crosses side_values (accepted side.Unrelated) ∷
    crosses optional_values (accepted (Some 65535)) ∷ crosses optional_values (accepted None) ∷
    crosses optional_values (accepted (Some 31)) ∷ crosses optional_values (accepted None) ∷
    crosses summary_values (accepted (record { rules = 8; decreasing = 3; score = 38 })) ∷
    crosses number_values (accepted 17) ∷
    crosses number_values (refused (record { code = 15; input = 2; offset = 128 })) ∷
    []

abbrev row : ℕ → ℤ → ℤ → ℤ → List ℤ
row code first second third = pos code ∷ first ∷ second ∷ third ∷ []

numbers-hold : numbers ≡
    row 0 (pos 1) (pos 2) (pos 0) ∷ row 0 (pos 2) (negsuc 0) (pos 0) ∷ row 0 (pos 3) (pos 0) (pos 0) ∷
    row 0 (pos 4) (pos 7) (pos 0) ∷
    row 0 (pos 1) (pos 3) (pos 0) ∷ row 0 (pos 2) (pos 5) (pos 0) ∷
    row 0 (pos 3) (pos 0) (pos 0) ∷ row 0 (pos 4) (pos 0) (pos 0) ∷
    row 0 (pos 1) (pos 65535) (pos 0) ∷ row 0 (pos 2) (pos 0) (pos 0) ∷
    row 0 (pos 1) (pos 31) (pos 0) ∷ row 0 (pos 2) (pos 0) (pos 0) ∷
    row 0 (pos 8) (pos 3) (pos 38) ∷
    row 0 (pos 17) (pos 0) (pos 0) ∷
    row 15 (pos 2) (pos 128) (pos 0) ∷
    []
numbers-hold = refl
