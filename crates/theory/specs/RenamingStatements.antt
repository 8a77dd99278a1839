-- The order does not see the names of variables: the theorems of renamings, as types. The proofs stand in
-- proofs/Theorems.antt.
-- Renders: 02, order 4: "the converted book has the marks the old one had", of one rule under any renaming, and
-- renumbered by first use.
use Rattle.std.specs.Prelude.{◌≡◌, ℕ, ◌<◌}
use Rattle.terms.specs.Signature.{Signature}
use Rattle.terms.specs.Term.{Term, occurrences, variable_count, weight, WellFormed}
use Rattle.terms.specs.Equivalence.{is_equivalent}
use Rattle.terms.specs.Order.{is_greater, mark, margin}
use Rattle.terms.specs.Rewriting.{Rule}
use Rattle.terms.specs.Renaming.{rename, OneToOneOn, WithinCount}
use Rattle.terms.specs.FirstUse.{renumbered_rule}
use Rattle.terms.specs.FirstUseStatements.{ForRules}

module _ (σ : Signature) where
  -- Any renaming keeps the weight, so the margin.
  abbrev pub WeightRenamed : Type 0
  WeightRenamed = (ρ : ℕ → ℕ) (t : Term) → weight σ (rename ρ t) ≡ weight σ t

  abbrev pub MarginRenamed : Type 0
  MarginRenamed = (ρ : ℕ → ℕ) (s t : Term) → margin σ (rename ρ s) (rename ρ t) ≡ margin σ s t

  -- A renaming of the variables that occur to numbers that a variable may have.
  abbrev pub WellFormedRenamed : Type 0
  WellFormedRenamed =
      (ρ : ℕ → ℕ) (t : Term) → ((x : ℕ) → 0 < occurrences x t → ρ x < variable_count) → WellFormed σ t →
      WellFormed σ (rename ρ t)

  -- A renaming that is one to one on the variables of the two terms, which may be of any form.
  abbrev pub EquivalenceRenamed : Type 0
  EquivalenceRenamed =
      (ρ : ℕ → ℕ) (s t : Term) → OneToOneOn ρ s t →
      is_equivalent σ (rename ρ s) (rename ρ t) ≡ is_equivalent σ s t

  -- A renaming that is one to one on the variables of two well-formed terms, to numbers that a variable may have.
  abbrev pub ForRenamed : ((ℕ → ℕ) → Term → Term → Type 0) → Type 0
  ForRenamed P =
      (ρ : ℕ → ℕ) (s t : Term) → OneToOneOn ρ s t → WithinCount ρ s t → WellFormed σ s → WellFormed σ t → P ρ s t

  abbrev pub OrderRenamed : Type 0
  OrderRenamed =
      ForRenamed λ ρ s t. (is_greater σ (rename ρ s) (rename ρ t) ≡ is_greater σ s t) ×
      (is_greater σ (rename ρ t) (rename ρ s) ≡ is_greater σ t s)

  abbrev pub MarkRenamed : Type 0
  MarkRenamed = ForRenamed λ ρ s t. mark σ (rename ρ s) (rename ρ t) ≡ mark σ s t

  -- A renumbered rule is well formed, and has the mark and the margin that the rule had.
  pub record Converted (r r' : Rule) : Type 0 where
    pub left : WellFormed σ r'.left
    pub right : WellFormed σ r'.right
    pub mark : mark σ r'.left r'.right ≡ mark σ r.left r.right
    pub margin : margin σ r'.left r'.right ≡ margin σ r.left r.right

  abbrev pub RulesConverted : Type 0
  RulesConverted = ForRules σ λ r. Converted r (renumbered_rule r)
