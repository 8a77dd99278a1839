-- The ground terms of so many nodes, as their words, in ascending order.
-- Renders: 02, order 12: "all variable-free terms of n nodes", "List them one after another", "ordered by their words
-- from the first on, each once".
use Rattle.std.specs.Prelude.{List, [], ◌∷◌, ◌++◌, map, ℕ, suc, zero, ◌+◌, ◌<◌, length}
use Rattle.terms.specs.Signature.{Signature, symbol_of}

-- What the numbers give that are n from f on, one after another.
abbrev pub over_numbers : {A : Type 0} → (ℕ → List A) → ℕ → ℕ → List A
over_numbers g f zero = []
over_numbers g f (suc n) = g f ++ over_numbers g (suc f) n

module _ (σ : Signature) where
  -- The words of so many ground terms in a row that have so many nodes in all: each symbol in turn, before the words of
  -- its arguments and of the other terms.
  unfoldable pub ground_rows : ℕ → ℕ → List (List ℕ)
  ground_rows zero zero = [] ∷ []
  ground_rows zero (suc others) = []
  ground_rows (suc nodes) zero = []
  ground_rows (suc nodes) (suc others) =
      over_numbers (λ (f : ℕ). map (λ (ws : List ℕ). f ∷ ws) (ground_rows nodes ((symbol_of σ f).arity + others)))
      0 (length σ.symbols)

  -- 02: all variable-free terms of n nodes.
  abbrev pub ground_terms : ℕ → List (List ℕ)
  ground_terms n = ground_rows n 1

-- Ordered by their words, the first that differ deciding.
pub data Before : List ℕ → List ℕ → Type 0 where
  first : {v w : ℕ} {vs ws : List ℕ} → v < w → Before (v ∷ vs) (w ∷ ws)
  later : {w : ℕ} {vs ws : List ℕ} → Before vs ws → Before (w ∷ vs) (w ∷ ws)
