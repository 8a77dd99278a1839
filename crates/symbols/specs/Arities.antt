-- How many arguments the nodes call for, by their words, as a reader looks it up.
use Rattle.std.specs.Prelude.{◌≡◌, List, cond, ℕ, suc, ◌≤◌, ◌<◌, length, get_or, leb, ltb}
use Rattle.terms.specs.Signature.{Signature, symbol_of}
use Rattle.terms.specs.Words.{first_variable}

-- One more than how many arguments a node calls for; 0 for a symbol that the signature lacks.
abbrev pub cell_of : Signature → ℕ → ℕ
cell_of σ word =
    cond (leb first_variable word) 1 (cond (ltb word (length σ.symbols)) (suc (symbol_of σ word).arity) 0)

-- The cells of all node words.
abbrev pub Arities : Signature → List ℕ → Type 0
Arities σ cells = (word : ℕ) → word < 272 → get_or cells word 0 ≡ cell_of σ word

-- Those of the words from one to another, the others as they were.
pub record Between (σ : Signature) (from to : ℕ) (before after : List ℕ) : Type 0 where
  pub inside : (word : ℕ) → from ≤ word → word < to → get_or after word 0 ≡ cell_of σ word
  pub lower : (word : ℕ) → word < from → get_or after word 0 ≡ get_or before word 0
  pub higher : (word : ℕ) → to ≤ word → get_or after word 0 ≡ get_or before word 0
