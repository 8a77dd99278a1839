-- The theorems of the enumeration, as types. Their proofs stand in proofs/EnumerationTheorems.antt.
-- Renders: 02, order 12: "all variable-free terms of n nodes", "ordered by their words from the first on, each once".
use mathlib.Core.List.{List, Memᴰ}
use Rattle.std.specs.Prelude.{◌↔◌, ◌≡◌, ℕ}
use Rattle.terms.specs.Signature.{Signature}
use Rattle.terms.specs.Term.{Term, size, Expression}
use Rattle.terms.specs.Words.{words}
use Rattle.terms.specs.Rewriting.{StronglySorted}
use Rattle.terms.specs.Enumeration.{ground_terms, Before}

module _ (σ : Signature) where
  -- An expression of n nodes with these words.
  pub record Spelled (n : ℕ) (ws : List ℕ) : Type 0 where
    pub term : Term
    pub spelled : ws ≡ words term
    pub expression : Expression σ term
    pub nodes : size term ≡ n

  -- What is enumerated are the words of the expressions of n nodes, all of them and no others.
  abbrev pub EnumeratesExpressions : Type 0
  EnumeratesExpressions = (n : ℕ) (ws : List ℕ) → Memᴰ ws (ground_terms σ n) ↔ Spelled n ws

  -- Each stands before every later one.
  abbrev pub EnumeratesInOrder : Type 0
  EnumeratesInOrder = (n : ℕ) → StronglySorted Before (ground_terms σ n)

-- No words stand before themselves, so none come twice.
abbrev pub BeforeIrreflexive : Type 0
BeforeIrreflexive = (ws : List ℕ) → Before ws ws → ⊥
