-- The theorems of Steinbach's order, as types. The proofs stand in proofs/Theorems.antt.
-- Renders: 02, order 7: "For a book with one AC symbol, ranked lowest of all, show that both orders .. say the same of
-- every pair of terms, variables included."; order 9: "Agreement with Steinbach stays with form 2", whose coefficients
-- are all 1; 004, Theorem 3.13 (000, Theorem 5.2).
use Rattle.std.specs.Prelude.{◌↔◌, ◌≡◌, true, false, ℕ, ◌≤◌, ◌<◌}
use Rattle.terms.specs.Signature.{Signature, symbol_of, IsSymbol, Ones, Admissible}
use Rattle.terms.specs.Term.{Term}
use Rattle.terms.specs.Equivalence.{is_equivalent}
use Rattle.terms.specs.Order.{is_greater}
use Rattle.terms.specs.Article.{Greater}
use Rattle.terms.specs.Steinbach.{SteinbachGreater, steinbach_decreases, is_steinbach_greater}
use Rattle.theory.specs.Statements.{ForWellFormed}

module _ (σ : Signature) where
  -- Steinbach's order of two terms by that of their parts.
  abbrev pub SteinbachUnfolds : Type 0
  SteinbachUnfolds =
      (s t : Term) → is_steinbach_greater σ s t ≡ steinbach_decreases σ (is_equivalent σ) (is_steinbach_greater σ) s t

  -- The test decides Definition 3.3 of 004, wherever AC symbols are ranked.
  abbrev pub TestDecidesSteinbach : Type 0
  TestDecidesSteinbach = ForWellFormed σ λ s t. is_steinbach_greater σ s t ≡ true ↔ SteinbachGreater σ s t

  -- An AC symbol is ranked lowest of all.
  abbrev pub AcLowest : Type 0
  AcLowest =
      (f g : ℕ) → IsSymbol σ f → IsSymbol σ g → (symbol_of σ f).ac ≡ true →
      (symbol_of σ f).precedence ≤ (symbol_of σ g).precedence

  -- 02: f is the one AC symbol, and ranked lowest of all.
  abbrev pub OneAcLowest : ℕ → Type 0
  OneAcLowest f =
      (g : ℕ) → IsSymbol σ g → (g ≡ f → ⊥) →
      ((symbol_of σ g).ac ≡ false) × ((symbol_of σ f).precedence < (symbol_of σ g).precedence)

  -- Where f is AC both are the same; where no symbol is, AcLowest holds.
  abbrev pub AcLowestMeans : Type 0
  AcLowestMeans = Admissible σ → (f : ℕ) → IsSymbol σ f → (symbol_of σ f).ac ≡ true → AcLowest ↔ OneAcLowest f

  -- Where all coefficients are 1, under AcLowest both orders say the same of any two terms: by the tests, and by the
  -- articles' definitions.
  abbrev pub AgreesWithSteinbach : Type 0
  AgreesWithSteinbach = Ones σ → AcLowest → ForWellFormed σ λ s t. is_greater σ s t ≡ is_steinbach_greater σ s t

  abbrev pub ArticlesAgree : Type 0
  ArticlesAgree = Ones σ → AcLowest → ForWellFormed σ λ s t. Greater σ s t ↔ SteinbachGreater σ s t
