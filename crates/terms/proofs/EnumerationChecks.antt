-- The small expressions of the sample: all of one, two and three nodes in their order, and how many there are of four.
use mathlib.Core.Path.{◌≡◌, refl}
use mathlib.Core.List.{List, [], ◌∷◌, ◌++◌, map}
use Prim.Native.Nat.{ℕ}
use lib.ListN.{length}
use Rattle.terms.specs.Enumeration.{ground_rows, ground_terms}
use Rattle.terms.specs.Sample.{sample}

abbrev pairs : ℕ → List (List ℕ)
pairs f =
    (f ∷ 0 ∷ 0 ∷ []) ∷ (f ∷ 0 ∷ 1 ∷ []) ∷ (f ∷ 0 ∷ 2 ∷ []) ∷ (f ∷ 1 ∷ 0 ∷ []) ∷ (f ∷ 1 ∷ 1 ∷ []) ∷ (f ∷ 1 ∷ 2 ∷ []) ∷
    (f ∷ 2 ∷ 0 ∷ []) ∷ (f ∷ 2 ∷ 1 ∷ []) ∷ (f ∷ 2 ∷ 2 ∷ []) ∷ []

abbrev expected : List (List (List ℕ))
expected =
    [] ∷
    ((0 ∷ []) ∷ (1 ∷ []) ∷ (2 ∷ []) ∷ []) ∷
    ((4 ∷ 0 ∷ []) ∷ (4 ∷ 1 ∷ []) ∷ (4 ∷ 2 ∷ []) ∷ []) ∷
    (pairs 3 ++ ((4 ∷ 4 ∷ 0 ∷ []) ∷ (4 ∷ 4 ∷ 1 ∷ []) ∷ (4 ∷ 4 ∷ 2 ∷ []) ∷ pairs 5)) ∷
    []

enumerated : map (ground_terms sample) (0 ∷ 1 ∷ 2 ∷ 3 ∷ []) ≡ expected
unfolding ground_rows
enumerated = refl

-- Of four nodes: `neg` over those of three, and a symbol of arity 2 over one and two nodes or two and one.
four : length (ground_terms sample 4) ≡ 57
unfolding ground_rows
four = refl
