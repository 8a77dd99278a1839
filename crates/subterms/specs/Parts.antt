-- Terms as parts of their words: the term that starts at an offset, the n terms that stand there, their elements.
use Rattle.std.specs.Prelude.{List, [], ◌∷◌, ◌⊎◌, ℕ, ◌+◌, ◌≤◌, ◌<◌, length, take, drop}
use Rattle.terms.specs.Signature.{Signature, symbol_of, IsSymbol}
use Rattle.terms.specs.Term.{Term, arguments, flattenings, variable_count}
use Rattle.terms.specs.Term.Term.{var, app}
use Rattle.terms.specs.Words.{first_variable, forest_of, term_of}

abbrev pub root_word : Term → ℕ
root_word (var x) = first_variable + x
root_word (app f ts) = f

module _ (σ : Signature) where
  -- The term that starts at an offset, and the n terms that stand there.
  abbrev pub part_at : List ℕ → ℕ → Term
  part_at ws i = term_of σ (drop i ws)

  abbrev pub parts_at : List ℕ → ℕ → ℕ → List Term
  parts_at ws i n = take n (forest_of σ (drop i ws))

  -- The elements of their flattenings for f.
  abbrev pub elements_at : ℕ → List ℕ → ℕ → ℕ → List Term
  elements_at f ws i n = flattenings f (arguments (parts_at ws i n))

  abbrev pub Stand : List ℕ → ℕ → ℕ → Type 0
  Stand ws i n = n ≤ length (forest_of σ (drop i ws))

  -- n terms stand at offset i.
  pub record Stands (ws : List ℕ) (i n : ℕ) : Type 0 where
    pub fits : i + n ≤ length ws
    pub terms : Stand ws i n

  -- The word of a symbol, or of a variable.
  abbrev pub IsNode : ℕ → Type 0
  IsNode w = IsSymbol σ w ⊎ ((first_variable ≤ w) × (w < first_variable + variable_count))

  -- Each word is a node's, and each symbol has its arguments to its right: words of well-formed terms.
  abbrev pub Complete : List ℕ → Type 0
  Complete [] = Unit {0}
  Complete (w ∷ ws) = IsNode w × ((symbol_of σ w).arity ≤ length (forest_of σ ws)) × Complete ws
