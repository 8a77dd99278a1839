-- The theorems of matching, as types. Their proofs stand in proofs/Theorems.antt.
-- Renders: 01: "A substitution puts an expression for each variable of a rule"; 02, request 14: "AC regrouping
-- allowed".
use mathlib.Core.List.{[], ◌∷◌, map, Memᴰ}
use Rattle.std.specs.Prelude.{◌≡◌, ℕ, ◌≤◌, ◌<◌, length}
use Rattle.terms.specs.Signature.{Signature, Admissible}
use Rattle.terms.specs.Term.{Term, size, occurrences, WellFormed, Expression}
use Rattle.terms.specs.Words.{first_variable, words}
use Rattle.terms.specs.Equivalence.{Equivalent}
use Rattle.terms.specs.Rewriting.{Substitution, substitute}
use Rattle.simplifying.specs.Canonical.{Arranged}
use Rattle.simplifying.specs.Matching.{Bindings, unbound, Agrees, matches}
use Rattle.simplifying.specs.Matching.Binding.{free, bound}
use Rattle.simplifying.specs.Agenda.{Agenda, agenda, follows}

module _ (σ : Signature) where
  -- Under bindings that are found, the pattern is AC-equivalent to the term, and all its variables are bound.
  abbrev pub MatchesSound : Type 0
  MatchesSound =
      Admissible σ → (p t : Term) → Expression σ t → (b : Bindings) → Memᴰ b (matches σ p t unbound) →
      ((τ : Substitution) → Agrees σ b τ → Equivalent σ t (substitute τ p)) ×
      ((x : ℕ) → 0 < occurrences x p → b x ≡ free → ⊥)

  -- A substitution under which it is agrees with some that are found.
  abbrev pub MatchesComplete : Type 0
  MatchesComplete =
      Admissible σ → (p t : Term) → WellFormed σ t → (τ : Substitution) → Equivalent σ t (substitute τ p) →
      (b : Bindings) × Memᴰ b (matches σ p t unbound) × Agrees σ b τ

  -- No pattern matches that has more nodes than the term.
  abbrev pub MatchesNoLarger : Type 0
  MatchesNoLarger =
      Admissible σ → (p t : Term) → Expression σ t → (b : Bindings) → Memᴰ b (matches σ p t unbound) →
      size p ≤ size t

  -- Against a canonical term, what a variable is bound to is canonical.
  abbrev pub MatchesArranged : Type 0
  MatchesArranged =
      (p t : Term) → Arranged σ t → (b : Bindings) → Memᴰ b (matches σ p t unbound) → (x : ℕ) (u : Term) →
      b x ≡ bound u → Arranged σ u

  -- Matching along a pattern's words, with an agenda, gives the same list.
  abbrev pub AgendaAgrees : Type 0
  AgendaAgrees =
      Admissible σ → length σ.symbols ≤ first_variable → (p t : Term) → WellFormed σ p → WellFormed σ t →
      (b : Bindings) → map (λ (a : Agenda). a.bindings) (follows σ (words p) (agenda (t ∷ []) b)) ≡ matches σ p t b
